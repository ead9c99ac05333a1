-- What the choices of each form of statement weigh.
use Rattle.std.proofs.Common.{◌≡◌, ℕ, ◌+◌, ◌*◌, List, map, Option, Some, None, refl, sym, ap, ◌∙◌}
use Rattle.std.specs.List.{flat_map, sum_by}
use Rattle.std.specs.Option.{option_map, unwrap_or}
use Rattle.rdc_outside.specs.declared.source.Place.{Place}
use Rattle.vlog_tree.specs.declared.expr.Expr.{Expr}
use Rattle.vlog_tree.specs.declared.ident.Ident.{Ident}
use Rattle.vlog_tree.specs.declared.stmt.Arm.{Arm}
use Rattle.vlog_tree.specs.declared.stmt.Assigns.{Assigns}
use Rattle.vlog_tree.specs.declared.stmt.Loop.{Loop}
use Rattle.vlog_tree.specs.declared.stmt.Matching.{Matching}
use Rattle.vlog_tree.specs.declared.stmt.Stmt.{Stmt, fold-roll-Stmt}
use Rattle.vlog_tree.specs.declared.stmt.Stmt.TheOpen.{Stmt-F}
use Rattle.vlog_tree.specs.declared.stmt.Stmt.TheVariants.{Empty, Block, Assign, If, Case, For, rolls-Empty, rolls-Block, rolls-Assign, rolls-If, rolls-Case, rolls-For}
use Rattle.design_form.specs.declared.parts.Parts.{Parts}
use Rattle.design_sizes.specs.Sizes.{case_shape}
use Rattle.elab_weight.specs.Limits.{capped}
use Rattle.elab_weight.specs.Choices.{arm_of, arm_weight, choice_weight, choice_by_parts}
use Rattle.elab_weight.proofs.Flat.{flat_map-map, sum-map}

pub choice-Empty : (d : Parts) (n : ℕ) (place : Place) → choice_weight d n (Empty place) ≡ 0
unfolding choice_weight choice_by_parts
choice-Empty d n place = ap (choice_weight d n) (sym (rolls-Empty place)) ∙ fold-roll-Stmt ℕ (choice_by_parts d n) (Stmt-F.Empty place)

pub choice-Block : (d : Parts) (n : ℕ) (place : Place) (label : Option Ident) (ss : List Stmt) → choice_weight d n (Block place label ss) ≡ sum_by (choice_weight d n) ss
unfolding choice_weight choice_by_parts
choice-Block d n place label ss = ap (choice_weight d n) (sym (rolls-Block place label ss)) ∙ fold-roll-Stmt ℕ (choice_by_parts d n) (Stmt-F.Block place label ss) ∙ sum-map (λ s. s) (choice_weight d n) (choice_weight d n) (λ s. refl) ss

pub choice-Assign : (d : Parts) (n : ℕ) (place : Place) (target : Expr) (by : Assigns) (value : Expr) → choice_weight d n (Assign place target by value) ≡ 0
unfolding choice_weight choice_by_parts
choice-Assign d n place target by value = ap (choice_weight d n) (sym (rolls-Assign place target by value)) ∙ fold-roll-Stmt ℕ (choice_by_parts d n) (Stmt-F.Assign place target by value)

pub choice-If : (d : Parts) (n : ℕ) (place : Place) (test : Expr) (a : Stmt) (b : Option Stmt) → choice_weight d n (If place test a b) ≡ 4 * n + choice_weight d n a + unwrap_or (option_map (choice_weight d n) b) 0
unfolding choice_weight choice_by_parts
choice-If d n place test a None = ap (choice_weight d n) (sym (rolls-If place test a None)) ∙ fold-roll-Stmt ℕ (choice_by_parts d n) (Stmt-F.If place test a None)
choice-If d n place test a (Some b) = ap (choice_weight d n) (sym (rolls-If place test a (Some b))) ∙ fold-roll-Stmt ℕ (choice_by_parts d n) (Stmt-F.If place test a (Some b))

-- a case item, its body as what that weighs
abbrev with_weight : Parts → ℕ → Arm Stmt → Arm ℕ
with_weight d n a = record { place = a.place; labels = a.labels; body = choice_weight d n a.body }

items : (d : Parts) (n : ℕ) (selector : Expr) (arms : List (Arm Stmt))
    → sum_by (arm_weight n (case_shape d selector (flat_map (λ (a : Arm ℕ). a.labels) (map (with_weight d n) arms))).width) (map (with_weight d n) arms) ≡ sum_by (arm_of d n (case_shape d selector (flat_map (λ (a : Arm Stmt). a.labels) arms)).width) arms
items d n selector arms =
    ap (λ (ls : List Expr). sum_by (arm_weight n (case_shape d selector ls).width) (map (with_weight d n) arms)) (flat_map-map (λ (a : Arm ℕ). a.labels) (with_weight d n) (λ (a : Arm Stmt). a.labels) (λ a. refl) arms)
    ∙ sum-map (arm_weight n (case_shape d selector (flat_map (λ (a : Arm Stmt). a.labels) arms)).width) (with_weight d n) (arm_of d n (case_shape d selector (flat_map (λ (a : Arm Stmt). a.labels) arms)).width) (λ a. refl) arms

pub choice-Case : (d : Parts) (n : ℕ) (place : Place) (how : Matching) (selector : Expr) (arms : List (Arm Stmt))
    → choice_weight d n (Case place how selector arms) ≡ sum_by (arm_of d n (case_shape d selector (flat_map (λ a. a.labels) arms)).width) arms
unfolding choice_weight choice_by_parts
choice-Case d n place how selector arms = ap (choice_weight d n) (sym (rolls-Case place how selector arms)) ∙ fold-roll-Stmt ℕ (choice_by_parts d n) (Stmt-F.Case place how selector arms) ∙ items d n selector arms

pub choice-For : (d : Parts) (n : ℕ) (place : Place) (h : Loop) (body : Stmt) → choice_weight d n (For place h body) ≡ choice_weight d n body
unfolding choice_weight choice_by_parts
choice-For d n place h body = ap (choice_weight d n) (sym (rolls-For place h body)) ∙ fold-roll-Stmt ℕ (choice_by_parts d n) (Stmt-F.For place h body)

-- a case statement, whose items are known as a slice, and its width as a number
pub case-form : (d : Parts) (n : ℕ) (e : Stmt) (place : Place) (how : Matching) (selector : Expr) (arms xs : List (Arm Stmt)) (w : ℕ)
    → e ≡ Case place how selector arms → xs ≡ arms → w ≡ (case_shape d selector (flat_map (λ a. a.labels) xs)).width → capped (sum_by (arm_of d n w) xs) ≡ capped (choice_weight d n e)
case-form d n e place how selector arms xs w is same wide =
    ap (λ k. capped (sum_by (arm_of d n k) xs)) wide
    ∙ ap (λ (ys : List (Arm Stmt)). capped (sum_by (arm_of d n (case_shape d selector (flat_map (λ a. a.labels) ys)).width) ys)) same
    ∙ ap capped (sym (choice-Case d n place how selector arms)) ∙ ap (λ (z : Stmt). capped (choice_weight d n z)) (sym is)

-- each form of statement, for tactics
pub ruleset forms = (choice-Empty, choice-Block, choice-Assign, choice-If, choice-Case, choice-For)
