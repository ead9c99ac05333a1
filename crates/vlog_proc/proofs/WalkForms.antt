-- What each form of statement leaves done.
use Rattle.std.proofs.Common.{◌≡◌, ℕ, Bool, not, ◌&&◌, ◌||◌, if◌then◌else◌, List, [], ◌∷◌, ◌++◌, map, Option, Some, None, Ok, refl, sym, ap, ◌∙◌}
use Rattle.rdc_outside.specs.declared.source.Place.{Place}
use Rattle.vlog_tree.specs.declared.expr.Expr.{Expr}
use Rattle.vlog_tree.specs.declared.ident.Ident.{Ident}
use Rattle.vlog_tree.specs.declared.stmt.Arm.{Arm}
use Rattle.vlog_tree.specs.declared.stmt.Assigns.{Assigns}
use Rattle.vlog_tree.specs.declared.stmt.Loop.{Loop}
use Rattle.vlog_tree.specs.declared.stmt.Matching.{Matching}
use Rattle.vlog_tree.specs.declared.stmt.Stmt.{Stmt, fold-roll-Stmt}
use Rattle.vlog_tree.specs.declared.stmt.Stmt.TheOpen.{Stmt-F}
use Rattle.vlog_tree.specs.declared.stmt.Stmt.TheVariants as s
use Rattle.design_form.specs.declared.parts.Parts.{Parts}
use Rattle.proc_cases.specs.Full.{is_full, labels_of}
use Rattle.vlog_proc.specs.Faults.{Or_fault, and_then}
use Rattle.vlog_proc.specs.Paths.{Walk, also, assign_walk, case_walk, choice_walk, has_default, in_turn, is_default, item_walk, met_with, other_side, passes_by, settled, tested, walk, walk_by_parts}
use Rattle.vlog_proc.proofs.Chains.{then_same, with_body}

abbrev self : Walk → Walk
self w = w

turns_of : {S : Type 0} (f : S → Walk) (ss : List S) (done : List ℕ) → in_turn self (map f ss) done ≡ in_turn f ss done
unfolding in_turn and_then
turns_of f [] done = refl
turns_of {S} f (s ∷ ss) done = then_same (f s done) (λ x. in_turn self (map f ss) x) (λ x. in_turn f ss x) (λ x. turns_of f ss x)

labels_kept : (f : Stmt → Walk) (arms : List (Arm Stmt)) → labels_of (map (with_body f) arms) ≡ labels_of arms
labels_kept f [] = refl
labels_kept f (a ∷ arms) = ap (λ (es : List Expr). a.labels ++ es) (labels_kept f arms)

default_kept : (f : Stmt → Walk) (arms : List (Arm Stmt)) → has_default (map (with_body f) arms) ≡ has_default arms
unfolding has_default
default_kept f [] = refl
default_kept f (a ∷ arms) = ap (λ (b : Bool). is_default a.labels || b) (default_kept f arms)

passes_kept : (d : Parts) (how : Matching) (selector : Expr) (f : Stmt → Walk) (arms : List (Arm Stmt)) → passes_by d how selector (map (with_body f) arms) ≡ passes_by d how selector arms
unfolding passes_by
passes_kept d how selector f arms =
    ap (λ (b : Bool). not b && not (is_full d how selector (labels_of (map (with_body f) arms)))) (default_kept f arms)
    ∙ ap (λ (es : List Expr). not (has_default arms) && not (is_full d how selector es)) (labels_kept f arms)

also_of : (d : Parts) (bits : List ℕ) (f : Stmt → Walk) (arms : List (Arm Stmt)) (x : Option (List ℕ)) (done : List ℕ) → also (item_walk d bits self) (map (with_body f) arms) x done ≡ also (item_walk d bits f) arms x done
unfolding also item_walk
also_of d bits f [] x done = refl
also_of d bits f (a ∷ arms) x done =
    then_same (item_walk d bits f a done) (λ y. also (item_walk d bits self) (map (with_body f) arms) (Some (met_with x y)) done) (λ y. also (item_walk d bits f) arms (Some (met_with x y)) done) (λ y. also_of d bits f arms (Some (met_with x y)) done)

case_of : (d : Parts) (bits : List ℕ) (f : Stmt → Walk) (how : Matching) (selector : Expr) (arms : List (Arm Stmt)) (done : List ℕ) → case_walk d bits self how selector (map (with_body f) arms) done ≡ case_walk d bits f how selector arms done
unfolding case_walk settled
case_of d bits f how selector arms done =
    ap (λ (b : Bool). and_then (tested d bits selector done) (λ own. and_then (also (item_walk d bits self) (map (with_body f) arms) None own) (λ x. Ok (if b then done else x)))) (passes_kept d how selector f arms)
    ∙ then_same (tested d bits selector done) (λ own. and_then (also (item_walk d bits self) (map (with_body f) arms) None own) (λ x. Ok (if passes_by d how selector arms then done else x))) (λ own. and_then (also (item_walk d bits f) arms None own) (λ x. Ok (if passes_by d how selector arms then done else x)))
    (λ own. ap (λ (r : Or_fault (List ℕ)). and_then r (λ x. Ok (if passes_by d how selector arms then done else x))) (also_of d bits f arms None own))

pub walk-Empty : (d : Parts) (bits done : List ℕ) (place : Place) → walk d bits (s.Empty place) done ≡ Ok done
unfolding walk walk_by_parts
walk-Empty d bits done place = ap (λ (t : Stmt). walk d bits t done) (sym (s.rolls-Empty place)) ∙ ap (λ (w : Walk). w done) (fold-roll-Stmt Walk (walk_by_parts d bits) (Stmt-F.Empty place))

pub walk-Block : (d : Parts) (bits done : List ℕ) (place : Place) (label : Option Ident) (inner : List Stmt) → walk d bits (s.Block place label inner) done ≡ in_turn (walk d bits) inner done
unfolding walk walk_by_parts
walk-Block d bits done place label inner = ap (λ (t : Stmt). walk d bits t done) (sym (s.rolls-Block place label inner)) ∙ ap (λ (w : Walk). w done) (fold-roll-Stmt Walk (walk_by_parts d bits) (Stmt-F.Block place label inner)) ∙ turns_of (walk d bits) inner done

pub walk-Assign : (d : Parts) (bits done : List ℕ) (place : Place) (target : Expr) (by : Assigns) (value : Expr) → walk d bits (s.Assign place target by value) done ≡ assign_walk d bits target value done
unfolding walk walk_by_parts
walk-Assign d bits done place target by value = ap (λ (t : Stmt). walk d bits t done) (sym (s.rolls-Assign place target by value)) ∙ ap (λ (w : Walk). w done) (fold-roll-Stmt Walk (walk_by_parts d bits) (Stmt-F.Assign place target by value))

pub walk-If : (d : Parts) (bits done : List ℕ) (place : Place) (test : Expr) (a : Stmt) (b : Option Stmt) → walk d bits (s.If place test a b) done ≡ choice_walk d bits (walk d bits) test a b done
unfolding walk walk_by_parts choice_walk other_side
walk-If d bits done place test a None = ap (λ (t : Stmt). walk d bits t done) (sym (s.rolls-If place test a None)) ∙ ap (λ (w : Walk). w done) (fold-roll-Stmt Walk (walk_by_parts d bits) (Stmt-F.If place test a None))
walk-If d bits done place test a (Some b) = ap (λ (t : Stmt). walk d bits t done) (sym (s.rolls-If place test a (Some b))) ∙ ap (λ (w : Walk). w done) (fold-roll-Stmt Walk (walk_by_parts d bits) (Stmt-F.If place test a (Some b)))

pub walk-Case : (d : Parts) (bits done : List ℕ) (place : Place) (how : Matching) (selector : Expr) (arms : List (Arm Stmt)) → walk d bits (s.Case place how selector arms) done ≡ case_walk d bits (walk d bits) how selector arms done
unfolding walk walk_by_parts
walk-Case d bits done place how selector arms = ap (λ (t : Stmt). walk d bits t done) (sym (s.rolls-Case place how selector arms)) ∙ ap (λ (w : Walk). w done) (fold-roll-Stmt Walk (walk_by_parts d bits) (Stmt-F.Case place how selector arms)) ∙ case_of d bits (walk d bits) how selector arms done

pub walk-For : (d : Parts) (bits done : List ℕ) (place : Place) (h : Loop) (body : Stmt) → walk d bits (s.For place h body) done ≡ Ok done
unfolding walk walk_by_parts
walk-For d bits done place h body = ap (λ (t : Stmt). walk d bits t done) (sym (s.rolls-For place h body)) ∙ ap (λ (w : Walk). w done) (fold-roll-Stmt Walk (walk_by_parts d bits) (Stmt-F.For place h body))

-- each form of statement, for tactics
pub ruleset forms = (walk-Empty, walk-Block, walk-Assign, walk-If, walk-Case, walk-For)
