-- What each form of statement does.
use Rattle.std.proofs.Common.{◌≡◌, ℕ, List, [], ◌∷◌, map, Option, Some, None, sym, ap, ◌∙◌}
use Rattle.rdc_outside.specs.declared.source.Place.{Place}
use Rattle.vlog_tree.specs.declared.expr.Expr.{Expr}
use Rattle.vlog_tree.specs.declared.ident.Ident.{Ident}
use Rattle.vlog_tree.specs.declared.stmt.Arm.{Arm}
use Rattle.vlog_tree.specs.declared.stmt.Assigns.{Assigns}
use Rattle.vlog_tree.specs.declared.stmt.Loop.{Loop}
use Rattle.vlog_tree.specs.declared.stmt.Matching.{Matching}
use Rattle.vlog_tree.specs.declared.stmt.Stmt.{Stmt, fold-roll-Stmt}
use Rattle.vlog_tree.specs.declared.stmt.Stmt.TheOpen.{Stmt-F}
use Rattle.vlog_tree.specs.declared.stmt.Stmt.TheVariants as s
use Rattle.design_form.specs.declared.parts.Parts.{Parts}
use Rattle.proc_values.specs.Runs.{Run}
use Rattle.proc_values.specs.Cases.{Step, with_body}
use Rattle.proc_values.specs.Bodies.{assign, branch, side, cases, in_order, run, run_by_parts}

pub run-Empty : (d : Parts) (reads bits : List ℕ) (place : Place) → run d reads bits (s.Empty place) ≡ (λ r. r)
unfolding run run_by_parts
run-Empty d reads bits place = ap (run d reads bits) (sym (s.rolls-Empty place)) ∙ fold-roll-Stmt Step (run_by_parts d reads bits) (Stmt-F.Empty place)

pub run-Block : (d : Parts) (reads bits : List ℕ) (place : Place) (label : Option Ident) (inner : List Stmt) → run d reads bits (s.Block place label inner) ≡ in_order (map (run d reads bits) inner)
unfolding run run_by_parts
run-Block d reads bits place label inner = ap (run d reads bits) (sym (s.rolls-Block place label inner)) ∙ fold-roll-Stmt Step (run_by_parts d reads bits) (Stmt-F.Block place label inner)

pub run-Assign : (d : Parts) (reads bits : List ℕ) (place : Place) (target : Expr) (by : Assigns) (value : Expr) → run d reads bits (s.Assign place target by value) ≡ assign d reads bits target by value
unfolding run run_by_parts
run-Assign d reads bits place target by value = ap (run d reads bits) (sym (s.rolls-Assign place target by value)) ∙ fold-roll-Stmt Step (run_by_parts d reads bits) (Stmt-F.Assign place target by value)

pub run-If-None : (d : Parts) (reads bits : List ℕ) (place : Place) (test : Expr) (a : Stmt) → run d reads bits (s.If place test a None) ≡ branch d reads bits test (run d reads bits a) (side None)
unfolding run run_by_parts
run-If-None d reads bits place test a = ap (run d reads bits) (sym (s.rolls-If place test a None)) ∙ fold-roll-Stmt Step (run_by_parts d reads bits) (Stmt-F.If place test a None)

pub run-If-Some : (d : Parts) (reads bits : List ℕ) (place : Place) (test : Expr) (a b : Stmt) → run d reads bits (s.If place test a (Some b)) ≡ branch d reads bits test (run d reads bits a) (run d reads bits b)
unfolding run run_by_parts side
run-If-Some d reads bits place test a b = ap (run d reads bits) (sym (s.rolls-If place test a (Some b))) ∙ fold-roll-Stmt Step (run_by_parts d reads bits) (Stmt-F.If place test a (Some b))

pub run-Case : (d : Parts) (reads bits : List ℕ) (place : Place) (how : Matching) (selector : Expr) (arms : List (Arm Stmt)) → run d reads bits (s.Case place how selector arms) ≡ cases d reads bits how selector (map (with_body (run d reads bits)) arms)
unfolding run run_by_parts
run-Case d reads bits place how selector arms = ap (run d reads bits) (sym (s.rolls-Case place how selector arms)) ∙ fold-roll-Stmt Step (run_by_parts d reads bits) (Stmt-F.Case place how selector arms)

pub run-For : (d : Parts) (reads bits : List ℕ) (place : Place) (h : Loop) (body : Stmt) → run d reads bits (s.For place h body) ≡ run d reads bits body
unfolding run run_by_parts
run-For d reads bits place h body = ap (run d reads bits) (sym (s.rolls-For place h body)) ∙ fold-roll-Stmt Step (run_by_parts d reads bits) (Stmt-F.For place h body)

-- each form of statement, for tactics
pub ruleset forms = (run-Empty, run-Block, run-Assign, run-If-None, run-If-Some, run-Case, run-For)
