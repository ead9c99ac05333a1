-- Serves bodies: choices and items.
use Rattle.std.proofs.Common.{◌≡◌, ℕ, zero, suc, ◌+◌, ◌-◌, ◌<◌, ◌≤◌, ◌==◌, Bool, true, false, not, if◌then◌else◌, List, [], ◌∷◌, ◌++◌, length, map, drop, get_or, refl, sym, ap, subst, ◌∙◌, arith, Option, Some, None, Result, Ok, Err, OnOk, IfOk}
use Rattle.std.proofs.lemmas.List.{drop_all, drop_more, length-map}
use Rattle.rdc_outside.specs.declared.source.Place.{Place}
use Rattle.vlog_tree.specs.declared.expr.Expr.{Expr}
use Rattle.vlog_tree.specs.declared.stmt.Arm.{Arm}
use Rattle.vlog_tree.specs.declared.stmt.Matching.{Matching}
use Rattle.vlog_tree.specs.declared.stmt.Stmt.{Stmt}
use Rattle.vlog_tree.specs.declared.stmt.Stmt.TheVariants as s
use Rattle.rdc_tern.specs.declared.value.Tern.{Tern}
use Rattle.rdc_tern.specs.Words.{any_of}
use Rattle.vlog_const.specs.declared.shape.Shape.{Shape}
use Rattle.design_form.specs.declared.parts.Parts.{Parts}
use Rattle.design_form.specs.State.{seen_in}
use Rattle.design_form.specs.Values.{word_of, word_in}
use Rattle.design_sizes.specs.Sizes.{case_shape}
use Rattle.proc_cases.specs.Full.{is_full, labels_of}
use Rattle.proc_values.specs.Runs.{Run, chosen}
use Rattle.proc_values.specs.Cases.{Step, with_body, default_from, standing, standing_or, is_at, chain, body_at, case_run}
use Rattle.proc_values.specs.Labels.{any_hit}
use Rattle.proc_values.specs.Bodies.{branch, side, cases, run}
use Rattle.proc_values.specs.Marks.{Moves, IsSide, Runs}
use Rattle.proc_values.proofs.BodyForms.{run-If-None, run-If-Some, run-Case}

pub if_none : (d : Parts) (reads bits : List ℕ) (st : Stmt) (place : Place) (test : Expr) (a b : Stmt) (other : Option Stmt) (r : Run) (hit : Tern) → st ≡ s.If place test a other → other ≡ None → b ≡ a → hit ≡ any_of (word_of (seen_in d r.now) test)
    → chosen reads bits hit (run d reads bits b r) r ≡ run d reads bits st r
unfolding side
if_none d reads bits st place test a b other r hit is none body-is hit-is =
    (λ k. chosen reads bits (hit-is k) (run d reads bits (body-is k) r) r)
    ∙ sym (ap (λ (f : Step). f r) (ap (run d reads bits) (is ∙ ap (s.If place test a) none) ∙ run-If-None d reads bits place test a))

pub if_some : (d : Parts) (reads bits : List ℕ) (st : Stmt) (place : Place) (test : Expr) (a b x y : Stmt) (other : Option Stmt) (r : Run) (hit : Tern) → st ≡ s.If place test a other → other ≡ Some x → b ≡ a → y ≡ x → hit ≡ any_of (word_of (seen_in d r.now) test)
    → chosen reads bits hit (run d reads bits b r) (run d reads bits y r) ≡ run d reads bits st r
if_some d reads bits st place test a b x y other r hit is some body-is other-is hit-is =
    (λ k. chosen reads bits (hit-is k) (run d reads bits (body-is k) r) (run d reads bits (other-is k) r))
    ∙ sym (ap (λ (f : Step). f r) (ap (run d reads bits) (is ∙ ap (s.If place test a) some) ∙ run-If-Some d reads bits place test a x))

pub labels_kept : {S T : Type 0} (f : S → T) (arms : List (Arm S)) → labels_of (map (with_body f) arms) ≡ labels_of arms
labels_kept f [] = refl
labels_kept f (a ∷ arms) = ap (λ (l : List Expr). a.labels ++ l) (labels_kept f arms)

default_kept : {S T : Type 0} (f : S → T) (i : ℕ) (arms : List (Arm S)) → default_from i (map (with_body f) arms) ≡ default_from i arms
unfolding default_from
default_kept f i [] = refl
default_kept f i (a ∷ arms) = ap (λ (o : Option ℕ). if length a.labels == 0 then Some i else o) (default_kept f (i + 1) arms)

pub standing_kept : {S T : Type 0} (f : S → T) (full : Bool) (arms : List (Arm S)) → standing full (map (with_body f) arms) ≡ standing full arms
unfolding standing_or
standing_kept {S} {T} f full arms = ap (standing_or full (map (with_body f) arms)) (default_kept f 0 arms) ∙ by full (default_from 0 arms)
  where
    by : (full : Bool) (o : Option ℕ) → standing_or full (map (with_body f) arms) o ≡ standing_or full arms o
    by full (Some i) = refl
    by true None = ap (λ (n : ℕ). Some (n - 1)) (length-map arms (with_body f))
    by false None = refl

pub case_is : (d : Parts) (reads bits : List ℕ) (st : Stmt) (place : Place) (how : Matching) (selector : Expr) (arms arms' : List (Arm Stmt)) (r : Run) (how' : Matching) (c : Shape) (w : List Tern) (full : Bool) (at : Option ℕ)
    → st ≡ s.Case place how selector arms → arms' ≡ arms → how' ≡ how → c ≡ case_shape d selector (labels_of arms') → w ≡ word_in (seen_in d r.now) c selector → full ≡ is_full d how selector (labels_of arms') → at ≡ standing full arms'
    → case_run reads bits (any_hit d r.now how' c w) at (map (with_body (run d reads bits)) arms') r ≡ run d reads bits st r
case_is d reads bits st place how selector arms arms' r how' c w full at is arms-is how-is shape word full-is at-is =
    let labels = labels_kept (run d reads bits) arms in
    let shape-is : c ≡ case_shape d selector (labels_of (map (with_body (run d reads bits)) arms)) = shape ∙ ap (λ (l : List (Arm Stmt)). case_shape d selector (labels_of l)) arms-is ∙ ap (case_shape d selector) (sym labels) in
    let word-is : w ≡ word_in (seen_in d r.now) (case_shape d selector (labels_of (map (with_body (run d reads bits)) arms))) selector = word ∙ ap (λ (z : Shape). word_in (seen_in d r.now) z selector) shape-is in
    let all : full ≡ is_full d how selector (labels_of (map (with_body (run d reads bits)) arms)) = full-is ∙ ap (λ (l : List (Arm Stmt)). is_full d how selector (labels_of l)) arms-is ∙ ap (is_full d how selector) (sym labels) in
    let stands : at ≡ standing (is_full d how selector (labels_of (map (with_body (run d reads bits)) arms))) (map (with_body (run d reads bits)) arms) =
    at-is ∙ ap (standing full) arms-is ∙ ap (λ (b : Bool). standing b arms) all ∙ sym (standing_kept (run d reads bits) _ arms) in
    (λ k. case_run reads bits (any_hit d r.now (how-is k) (shape-is k) (word-is k)) (stands k) (map (with_body (run d reads bits)) (arms-is k)) r)
    ∙ sym (ap (λ (f : Step). f r) (ap (run d reads bits) is ∙ run-Case d reads bits place how selector arms))

-- ---- items from the last one up

pub chain_end : (reads bits : List ℕ) (hit : List Expr → Tern) (at : Option ℕ) (f : Stmt → Step) (arms : List (Arm Stmt)) (other : Step) (r : Run) → other r ≡ chain reads bits hit at (length arms) (map (with_body f) (drop (length arms) arms)) other r
unfolding chain
chain_end reads bits hit at f arms other r = ap (λ (l : List (Arm Stmt)). chain reads bits hit at (length arms) (map (with_body f) l) other r) (sym (drop_all (length arms) arms (omega arith)))

here : (arms : List (Arm Stmt)) (i left : ℕ) (arm : Arm Stmt) → left ≡ i + 1 → left ≤ length arms → arm ≡ get_or arms i arm → drop i arms ≡ arm ∷ drop left arms
here arms i left arm step inside is = drop_more arms i arm (omega (arith, step, inside)) ∙ (λ k. sym is k ∷ drop (sym step k) arms)

pub chain_item : (reads bits : List ℕ) (hit : List Expr → Tern) (at : Option ℕ) (f : Stmt → Step) (arms : List (Arm Stmt)) (i left : ℕ) (arm : Arm Stmt) (other : Step) (r : Run) → left ≡ i + 1 → left ≤ length arms → arm ≡ get_or arms i arm → is_at at i ≡ false
    → chosen reads bits (hit arm.labels) (f arm.body r) (chain reads bits hit at left (map (with_body f) (drop left arms)) other r) ≡ chain reads bits hit at i (map (with_body f) (drop i arms)) other r
unfolding chain
chain_item reads bits hit at f arms i left arm other r step inside is matched =
    ap (λ (n : ℕ). chosen reads bits (hit arm.labels) (f arm.body r) (chain reads bits hit at n (map (with_body f) (drop left arms)) other r)) step
    ∙ sym (rw matched refl) ∙ ap (λ (l : List (Arm Stmt)). chain reads bits hit at i (map (with_body f) l) other r) (sym (here arms i left arm step inside is))

pub chain_skip : (reads bits : List ℕ) (hit : List Expr → Tern) (at : Option ℕ) (f : Stmt → Step) (arms : List (Arm Stmt)) (i left : ℕ) (arm : Arm Stmt) (other : Step) (r : Run) → left ≡ i + 1 → left ≤ length arms → arm ≡ get_or arms i arm → is_at at i ≡ true
    → chain reads bits hit at left (map (with_body f) (drop left arms)) other r ≡ chain reads bits hit at i (map (with_body f) (drop i arms)) other r
unfolding chain
chain_skip reads bits hit at f arms i left arm other r step inside is skipped =
    ap (λ (n : ℕ). chain reads bits hit at n (map (with_body f) (drop left arms)) other r) step
    ∙ sym (rw skipped refl) ∙ ap (λ (l : List (Arm Stmt)). chain reads bits hit at i (map (with_body f) l) other r) (sym (here arms i left arm step inside is))

pub side_as : (reads bits : List ℕ) (r a b : Run) (seen becomes : List Tern) → a ≡ b → IsSide reads bits r a seen becomes → IsSide reads bits r b seen becomes
side_as reads bits r a b seen becomes is side = subst (λ (x : Run). IsSide reads bits r x seen becomes) is side

-- an item by its number
pub same_labels : (arms : List (Arm Stmt)) (i : ℕ) (a b : Arm Stmt) → i < length arms → a ≡ get_or arms i a → b ≡ get_or arms i b → a.labels ≡ b.labels
same_labels [] i a b lt a-is b-is = absurd (omega arith)
same_labels (x ∷ arms) zero a b lt a-is b-is = ap (λ (m : Arm Stmt). m.labels) (a-is ∙ sym b-is)
same_labels (x ∷ arms) (suc i) a b lt a-is b-is = same_labels arms i a b (omega arith) a-is b-is
