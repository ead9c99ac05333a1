-- Serves specs/Laws.antt: a body without loops stays as it is.
use Rattle.std.proofs.Common.{◌≡◌, Bool, true, false, ◌||◌, if◌then◌else◌, List, [], ◌∷◌, ◌++◌, map, Option, Some, None, Ok, refl, sym, ap, subst, ◌∙◌, append_assoc}
use Rattle.std.proofs.lemmas.List.{append-nil}
use Rattle.std.specs.List.{list_any}
use Rattle.rdc_outside.specs.declared.source.Place.{Place}
use Rattle.vlog_tree.specs.declared.expr.Expr.{Expr}
use Rattle.vlog_tree.specs.declared.ident.Ident.{Ident}
use Rattle.vlog_tree.specs.declared.stmt.Arm.{Arm}
use Rattle.vlog_tree.specs.declared.stmt.Assigns.{Assigns}
use Rattle.vlog_tree.specs.declared.stmt.Loop.{Loop}
use Rattle.vlog_tree.specs.declared.stmt.Matching.{Matching}
use Rattle.vlog_tree.specs.declared.stmt.Stmt.{Stmt, ind-Stmt, map-Stmt, roll-Stmt}
use Rattle.vlog_tree.specs.declared.stmt.Stmt.TheOpen.{Stmt-F}
use Rattle.vlog_tree.specs.declared.stmt.Stmt.TheVariants.{Empty, Block, Assign, If, Case, For, rolls-Empty, rolls-Block, rolls-Assign, rolls-If, rolls-Case, rolls-For}
use Rattle.vlog_const.specs.Names.{no_values}
use Rattle.proc_loops.specs.declared.progress.Progress.{Progress}
use Rattle.proc_loops.specs.declared.pieces.Sides.{Sides}
use Rattle.proc_loops.specs.declared.turn.Unrolled.{Unrolled}
use Rattle.proc_loops.specs.Faults.{Or_fault, and_then}
use Rattle.proc_loops.specs.Names.{first_among}
use Rattle.proc_loops.specs.Headers.{unknown}
use Rattle.proc_loops.specs.Turns.{begun}
use Rattle.proc_loops.specs.Unrolled.{put_in, each, arm_in, other_side, sides, assignment, unroll, unrolled, unrolled_if}
use Rattle.proc_loops.specs.Laws.{has_loop}
use Rattle.proc_loops.proofs.HeaderForms.{unknown-Empty, unknown-Block, unknown-Assign, unknown-If-None, unknown-If-Some, unknown-Case}
use Rattle.proc_loops.proofs.UnrollForms.{with_body, unroll-Empty, unroll-Block, unroll-Assign, unroll-If, unroll-Case}
use Rattle.proc_loops.proofs.LoopLaws.{loop-Block, loop-If-None, loop-If-Some, loop-Case, loop-For}
use Rattle.proc_loops.proofs.PlainExpressions.{neither, put_in_plain, all_put_in_plain}

abbrev Stays : Stmt → Type 0
Stays s = (p : Progress) → p.is_cut ≡ false → unroll s no_values p ≡ Ok (s, p)

record Plain (s : Stmt) : Type 0 where
  pub none : unknown s no_values ≡ None
  pub same : Stays s

abbrev IsSo : Stmt → Type 0
IsSo s = has_loop s ≡ false → Plain s

abbrev Known : Type 0
Known = (s : Stmt) × IsSo s

abbrev known : Known → Stmt
known k = k.0

both_false : (a b : Bool) → (a || b) ≡ false → (a ≡ false) × (b ≡ false)
both_false true b h = absurd cc
both_false false b h = (refl, h)

-- ---- lists

record PlainList (ss : List Known) : Type 0 where
  pub none : first_among (map (λ s. unknown s no_values) (map known ss)) ≡ None
  pub same : (done : List Stmt) (p : Progress) → p.is_cut ≡ false → each unroll done (map known ss) no_values p ≡ Ok (done ++ map known ss, p)

list_plain : (ss : List Known) → list_any has_loop (map known ss) ≡ false → PlainList ss
unfolding first_among each and_then
list_plain [] h = record { none = refl; same = λ done p whole. ap (λ (z : List Stmt). let x : Or_fault (List Stmt × Progress) = Ok (z, p) in x) (sym (append-nil done)) }
list_plain (k ∷ ss) h =
    let apart = both_false (has_loop k.0) (list_any has_loop (map known ss)) h in
    let one = k.1 apart.0 in
    let rest = list_plain ss apart.1 in
    record {
      none = neither (unknown k.0 no_values) (first_among (map (λ s. unknown s no_values) (map known ss))) one.none rest.none;
      same = λ done p whole.
          ap (λ b. if b then Ok (done, p) else and_then (unroll k.0 no_values p) (λ r. each unroll (done ++ r.0 ∷ []) (map known ss) no_values r.1)) whole
          ∙ ap (λ (r : Or_fault (Stmt × Progress)). and_then r (λ r. each unroll (done ++ r.0 ∷ []) (map known ss) no_values r.1)) (one.same p whole)
          ∙ rest.same (done ++ k.0 ∷ []) p whole
          ∙ ap (λ (z : List Stmt). let x : Or_fault (List Stmt × Progress) = Ok (z, p) in x) (append_assoc done (k.0 ∷ []) (map known ss));
    }

arm_plain : (a : Arm Known) → Plain a.body.0 → (p : Progress) → p.is_cut ≡ false → arm_in unroll (with_body known a) no_values p ≡ Ok (with_body known a, p)
unfolding arm_in and_then
arm_plain a h p whole =
    ap (λ (ls : Or_fault (List Expr)). and_then ls (λ labels. and_then (unroll a.body.0 no_values p) (λ r. Ok (record { place = a.place; labels = labels; body = r.0 }, r.1)))) (all_put_in_plain [] a.labels)
    ∙ ap (λ (r : Or_fault (Stmt × Progress)). and_then r (λ r. let x : Or_fault (Arm Stmt × Progress) = Ok (record { place = a.place; labels = a.labels; body = r.0 }, r.1) in x)) (h.same p whole)

record PlainArms (arms : List (Arm Known)) : Type 0 where
  pub none : first_among (map (λ a. unknown a.body no_values) (map (with_body known) arms)) ≡ None
  pub same : (done : List (Arm Stmt)) (p : Progress) → p.is_cut ≡ false → each (arm_in unroll) done (map (with_body known) arms) no_values p ≡ Ok (done ++ map (with_body known) arms, p)

arms_plain : (arms : List (Arm Known)) → list_any (λ a. has_loop a.body) (map (with_body known) arms) ≡ false → PlainArms arms
unfolding first_among each and_then
arms_plain [] h = record { none = refl; same = λ done p whole. ap (λ (z : List (Arm Stmt)). let x : Or_fault (List (Arm Stmt) × Progress) = Ok (z, p) in x) (sym (append-nil done)) }
arms_plain (a ∷ arms) h =
    let apart = both_false (has_loop a.body.0) (list_any (λ a. has_loop a.body) (map (with_body known) arms)) h in
    let one = a.body.1 apart.0 in
    let rest = arms_plain arms apart.1 in
    record {
      none = neither (unknown a.body.0 no_values) (first_among (map (λ a. unknown a.body no_values) (map (with_body known) arms))) one.none rest.none;
      same = λ done p whole.
          ap (λ b. if b then Ok (done, p) else and_then (arm_in unroll (with_body known a) no_values p) (λ r. each (arm_in unroll) (done ++ r.0 ∷ []) (map (with_body known) arms) no_values r.1)) whole
          ∙ ap (λ (r : Or_fault (Arm Stmt × Progress)). and_then r (λ r. each (arm_in unroll) (done ++ r.0 ∷ []) (map (with_body known) arms) no_values r.1)) (arm_plain a one p whole)
          ∙ rest.same (done ++ with_body known a ∷ []) p whole
          ∙ ap (λ (z : List (Arm Stmt)). let x : Or_fault (List (Arm Stmt) × Progress) = Ok (z, p) in x) (append_assoc done (with_body known a ∷ []) (map (with_body known) arms));
    }

-- ---- forms

by_form : (s t : Stmt) → s ≡ t → IsSo t → IsSo s
by_form s t rolls h = subst IsSo (sym rolls) h

empty_plain : (place : Place) → IsSo (Empty place)
empty_plain place h = record { none = unknown-Empty place no_values; same = λ p whole. unroll-Empty place no_values p }

block_plain : (place : Place) (label : Option Ident) (ss : List Known) → IsSo (Block place label (map known ss))
unfolding and_then
block_plain place label ss h =
    let all = list_plain ss (sym (loop-Block place label (map known ss)) ∙ h) in
    record {
      none = unknown-Block place label (map known ss) no_values ∙ all.none;
      same = λ p whole. unroll-Block place label (map known ss) no_values p ∙ ap (λ (r : Or_fault (List Stmt × Progress)). and_then r (λ r. let x : Or_fault (Stmt × Progress) = Ok (Block place label r.0, r.1) in x)) (all.same [] p whole);
    }

assignment_plain : (place : Place) (target : Expr) (by : Assigns) (value : Expr) → IsSo (Assign place target by value)
unfolding assignment and_then
assignment_plain place target by value h = record {
  none = unknown-Assign place target by value no_values;
  same = λ p whole. unroll-Assign place target by value no_values p
      ∙ ap (λ (t : Or_fault Expr). and_then t (λ t. and_then (put_in no_values value) (λ v. let x : Or_fault (Stmt × Progress) = Ok (Assign place t by v, p) in x))) (put_in_plain target)
      ∙ ap (λ (v : Or_fault Expr). and_then v (λ v. let x : Or_fault (Stmt × Progress) = Ok (Assign place target by v, p) in x)) (put_in_plain value);
}

if_plain : (place : Place) (test : Expr) (a : Known) → IsSo (If place test a.0 None)
unfolding and_then other_side
if_plain place test a h =
    let one = a.1 ((both_false (has_loop a.0) false (sym (loop-If-None place test a.0) ∙ h)).0) in
    record {
      none = unknown-If-None place test a.0 no_values ∙ one.none;
      same = λ p whole. unroll-If place test a.0 None no_values p
          ∙ ap (λ (t : Or_fault Expr). and_then t (λ t. and_then (sides unroll None no_values (unroll a.0 no_values p)) (λ r. let x : Or_fault (Stmt × Progress) = Ok (If place t r.first r.other, r.then) in x))) (put_in_plain test)
          ∙ ap (λ (q : Or_fault (Stmt × Progress)). and_then (sides unroll None no_values q) (λ r. let x : Or_fault (Stmt × Progress) = Ok (If place test r.first r.other, r.then) in x)) (one.same p whole);
    }

sides_plain : (place : Place) (test : Expr) (a b : Known) → IsSo (If place test a.0 (Some b.0))
unfolding and_then other_side
sides_plain place test a b h =
    let apart = both_false (has_loop a.0) (has_loop b.0) (sym (loop-If-Some place test a.0 b.0) ∙ h) in
    let one = a.1 apart.0 in
    let other = b.1 apart.1 in
    record {
      none = unknown-If-Some place test a.0 b.0 no_values ∙ neither (unknown a.0 no_values) (unknown b.0 no_values) one.none other.none;
      same = λ p whole. unroll-If place test a.0 (Some b.0) no_values p
          ∙ ap (λ (t : Or_fault Expr). and_then t (λ t. and_then (sides unroll (Some b.0) no_values (unroll a.0 no_values p)) (λ r. let x : Or_fault (Stmt × Progress) = Ok (If place t r.first r.other, r.then) in x))) (put_in_plain test)
          ∙ ap (λ (q : Or_fault (Stmt × Progress)). and_then (sides unroll (Some b.0) no_values q) (λ r. let x : Or_fault (Stmt × Progress) = Ok (If place test r.first r.other, r.then) in x)) (one.same p whole)
          ∙ ap (λ c. and_then {A = Sides} (if c then Ok (record { first = a.0; other = None; then = p }) else and_then (unroll b.0 no_values p) (λ q. Ok (record { first = a.0; other = Some q.0; then = q.1 }))) (λ r. let x : Or_fault (Stmt × Progress) = Ok (If place test r.first r.other, r.then) in x)) whole
          ∙ ap (λ (q : Or_fault (Stmt × Progress)). and_then (and_then q (λ q. let y : Or_fault Sides = Ok (record { first = a.0; other = Some q.0; then = q.1 }) in y)) (λ r. let x : Or_fault (Stmt × Progress) = Ok (If place test r.first r.other, r.then) in x)) (other.same p whole);
    }

case_plain : (place : Place) (how : Matching) (selector : Expr) (arms : List (Arm Known)) → IsSo (Case place how selector (map (with_body known) arms))
unfolding and_then
case_plain place how selector arms h =
    let all = arms_plain arms (sym (loop-Case place how selector (map (with_body known) arms)) ∙ h) in
    record {
      none = unknown-Case place how selector (map (with_body known) arms) no_values ∙ all.none;
      same = λ p whole. unroll-Case place how selector (map (with_body known) arms) no_values p
          ∙ ap (λ (s : Or_fault Expr). and_then s (λ s. and_then (each (arm_in unroll) [] (map (with_body known) arms) no_values p) (λ r. let x : Or_fault (Stmt × Progress) = Ok (Case place how s r.0, r.1) in x))) (put_in_plain selector)
          ∙ ap (λ (r : Or_fault (List (Arm Stmt) × Progress)). and_then r (λ r. let x : Or_fault (Stmt × Progress) = Ok (Case place how selector r.0, r.1) in x)) (all.same [] p whole);
    }

loop_plain : (place : Place) (header : Loop) (body : Stmt) → IsSo (For place header body)
loop_plain place header body h = let is = loop-For place header body in absurd cc

by_parts : (y : Stmt-F Known) → IsSo (roll-Stmt (map-Stmt Known Stmt known y))
by_parts (Stmt-F.Empty place) = by_form _ _ (rolls-Empty place) (empty_plain place)
by_parts (Stmt-F.Block place label ss) = by_form _ _ (rolls-Block place label (map known ss)) (block_plain place label ss)
by_parts (Stmt-F.Assign place target by value) = by_form _ _ (rolls-Assign place target by value) (assignment_plain place target by value)
by_parts (Stmt-F.If place test a None) = by_form _ _ (rolls-If place test (known a) None) (if_plain place test a)
by_parts (Stmt-F.If place test a (Some b)) = by_form _ _ (rolls-If place test (known a) (Some (known b))) (sides_plain place test a b)
by_parts (Stmt-F.Case place how selector arms) = by_form _ _ (rolls-Case place how selector (map (with_body known) arms)) (case_plain place how selector arms)
by_parts (Stmt-F.For place h body) = by_form _ _ (rolls-For place h (known body)) (loop_plain place h (known body))

statement_plain : (s : Stmt) → IsSo s
statement_plain s = ind-Stmt IsSo (λ x y is. subst (λ z. IsSo (roll-Stmt z)) is (by_parts y)) s

pub bodies_stay : (s : Stmt) → has_loop s ≡ false → unrolled s ≡ Ok (record { body = s; turns = 0; headers = 0; is_cut = false })
unfolding unrolled unrolled_if and_then
bodies_stay s h =
    let plain = statement_plain s h in
    ap (unrolled_if s) plain.none
    ∙ ap (λ (r : Or_fault (Stmt × Progress)). and_then r (λ r. let x : Or_fault Unrolled = Ok (record { body = r.0; turns = r.1.turns; headers = r.1.headers; is_cut = r.1.is_cut }) in x)) (plain.same begun refl)
