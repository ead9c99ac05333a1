-- Serves src/lowering.rt and src/forms.rt: what a call builds, said of what is the same.
use Rattle.std.proofs.Common.{◌≡◌, ℕ, List, Option, Some, None, Result, refl, ap, subst, ◌∙◌}
use Rattle.vlog_tree.specs.declared.expr.Expr.{Expr}
use Rattle.vlog_tree.specs.declared.expr.Part.{Part}
use Rattle.vlog_tree.specs.declared.expr.Part.TheVariants.{Fixed, Up, Down}
use Rattle.vlog_const.specs.declared.shape.Shape.{Shape}
use Rattle.design_form.specs.Values.{count_alone}
use Rattle.net_view.specs.View.{Numbered}
use Rattle.net_gates.specs.declared.fault.GateFault.{GateFault}
use Rattle.vlog_const.specs.declared.whole.Whole.{Whole}
use Rattle.design_form.specs.Selects.{part_width}
use Rattle.net_words.specs.Builds.{Built, Build, Builds, onward, ◌>>=◌, return}
use Rattle.net_words.proofs.BuildLemmas.{IsLeft, begins_itself}
use Rattle.net_exprs.specs.Selects.{part, part_from}
use Rattle.net_exprs.specs.Wired.{Wired}
use Rattle.net_exprs.specs.Extensions.{extended, copies}
use Rattle.net_exprs.specs.Lowered.{Lowered, picked_by, select_word, joined, repeated}

pub same_build : {A X : Type 0} {f : A → X} {old new : List Numbered} {r : Result A GateFault} (b b' : Build X) → b ≡ b' → Builds f b old r new → Builds f b' old r new
same_build {f = f} {old = old} {new = new} {r = r} b b' same built = subst (λ (z : Build _). Builds f z old r new) same built

pub in_shape : {A : Type 0} {f : A → List ℕ} {old new : List Numbered} {r : Result A GateFault} (a : Lowered) (s t : Shape) → s ≡ t → Builds f (a.word s) old r new → Builds f (a.word t) old r new
in_shape a s t same built = same_build (a.word s) (a.word t) (ap a.word same) built

pub in_view : {A : Type 0} {f : A → List ℕ} {old new : List Numbered} {r : Result A GateFault} (how : Part) (v w : Wired) (n m : ℕ) (a : Lowered) → v ≡ w → n ≡ m
    → Builds f (picked_by how v n a) old r new → Builds f (picked_by how w m a) old r new
in_view how v w n m a same wide built = same_build (picked_by how v n a) (picked_by how w m a) (ap (λ (x : Wired). picked_by how x n a) same ∙ ap (λ (k : ℕ). picked_by how w k a) wide) built

pub moving : (v : Wired) (how : Part) (i j : Expr) (a : Lowered) → (how ≡ Fixed → ⊥) → picked_by how v (count_alone j) a ≡ select_word v how i a j
unfolding select_word
moving v Fixed i j a moves = absurd (moves refl)
moving v Up i j a moves = refl
moving v Down i j a moves = refl

copied : (n : ℕ) (k : List ℕ → Build (List ℕ)) (o : Option (Built (List ℕ)))
    → onward o (λ w. k (copies n w)) ≡ onward (onward o (λ w gates. Some (record { gates = gates; made = copies n w }))) k
copied n k None = refl
copied n k (Some built) = refl

-- members are built once
pub repeat_first : (n : ℕ) (ms : List Lowered) (c : Shape) (net : List Numbered) → IsLeft (repeated n ms >>= extended c) net net (joined ms >>= (λ w. extended c (copies n w)))
unfolding repeated ◌>>=◌ return
repeat_first n ms c net = record { front = begins_itself net; left = copied n (extended c) (joined ms net) }

-- what is there already
pub there_already : {X Y : Type 0} (net : List Numbered) (x : X) (k : X → Build Y) → IsLeft (return x >>= k) net net (k x)
unfolding ◌>>=◌ return
there_already net x k = record { front = begins_itself net; left = refl }

pub part_same : (v w : Wired) (i j from to : Whole) (n : ℕ) → v ≡ w → from ≡ i → to ≡ j → n ≡ part_width v.range from to → part_from v.range v.nodes to 0 n ≡ part w i j
part_same v w i j from to n same one other wide =
    ap (part_from v.range v.nodes to 0) wide
    ∙ ap (λ (x : Whole). part_from v.range v.nodes to 0 (part_width v.range x to)) one
    ∙ ap (λ (y : Whole). part_from v.range v.nodes y 0 (part_width v.range i y)) other
    ∙ ap (λ (z : Wired). part z i j) same
