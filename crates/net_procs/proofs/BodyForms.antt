-- What each form of statement draws.
use Rattle.std.proofs.Common.{◌≡◌, ℕ, List, map, Option, Some, None, sym, ap, ◌∙◌}
use Rattle.rdc_outside.specs.declared.source.Place.{Place}
use Rattle.vlog_tree.specs.declared.expr.Expr.{Expr}
use Rattle.vlog_tree.specs.declared.ident.Ident.{Ident}
use Rattle.vlog_tree.specs.declared.stmt.Arm.{Arm}
use Rattle.vlog_tree.specs.declared.stmt.Assigns.{Assigns}
use Rattle.vlog_tree.specs.declared.stmt.Loop.{Loop}
use Rattle.vlog_tree.specs.declared.stmt.Matching.{Matching}
use Rattle.vlog_tree.specs.declared.stmt.Stmt.{Stmt, fold-roll-Stmt}
use Rattle.vlog_tree.specs.declared.stmt.Stmt.TheOpen.{Stmt-F}
use Rattle.vlog_tree.specs.declared.stmt.Stmt.TheVariants as s
use Rattle.design_form.specs.declared.parts.Parts.{Parts}
use Rattle.proc_values.specs.Cases.{with_body}
use Rattle.net_words.specs.Builds.{return}
use Rattle.net_procs.specs.Runs.{Run, Step}
use Rattle.net_procs.specs.Bodies.{assign, branch, side, cases, in_order, run, run_by_parts}

-- as it is written
at : (d : Parts) (reads bits : List ℕ) (t u : Stmt) (x : Stmt-F Step) (r : Run) → t ≡ u → run d reads bits u ≡ run_by_parts d reads bits x → run_by_parts d reads bits x r ≡ run d reads bits t r
at d reads bits t u x r is form = ap (λ (f : Step). f r) (sym form) ∙ ap (λ (y : Stmt). run d reads bits y r) (sym is)

pub form-Empty : (d : Parts) (reads bits : List ℕ) (t : Stmt) (place : Place) (r : Run) → t ≡ s.Empty place → return r ≡ run d reads bits t r
unfolding run run_by_parts
form-Empty d reads bits t place r is =
    at d reads bits t (s.Empty place) (Stmt-F.Empty place) r is (ap (run d reads bits) (sym (s.rolls-Empty place)) ∙ fold-roll-Stmt Step (run_by_parts d reads bits) (Stmt-F.Empty place))

pub form-Block : (d : Parts) (reads bits : List ℕ) (t : Stmt) (place : Place) (label : Option Ident) (inner xs : List Stmt) (r : Run) → t ≡ s.Block place label inner → xs ≡ inner → in_order (map (run d reads bits) xs) r ≡ run d reads bits t r
unfolding run run_by_parts
form-Block d reads bits t place label inner xs r is same =
    ap (λ (l : List Stmt). in_order (map (run d reads bits) l) r) same
    ∙ at d reads bits t (s.Block place label inner) (Stmt-F.Block place label (map (run d reads bits) inner)) r is
    (ap (run d reads bits) (sym (s.rolls-Block place label inner)) ∙ fold-roll-Stmt Step (run_by_parts d reads bits) (Stmt-F.Block place label inner))

pub form-Assign : (d : Parts) (reads bits : List ℕ) (t : Stmt) (place : Place) (target : Expr) (by : Assigns) (value : Expr) (r : Run) → t ≡ s.Assign place target by value → assign d reads bits target by value r ≡ run d reads bits t r
unfolding run run_by_parts
form-Assign d reads bits t place target by value r is =
    at d reads bits t (s.Assign place target by value) (Stmt-F.Assign place target by value) r is
    (ap (run d reads bits) (sym (s.rolls-Assign place target by value)) ∙ fold-roll-Stmt Step (run_by_parts d reads bits) (Stmt-F.Assign place target by value))

pub form-If : (d : Parts) (reads bits : List ℕ) (t : Stmt) (place : Place) (test : Expr) (a x : Stmt) (other : Option Stmt) (r : Run) → t ≡ s.If place test a other → other ≡ None → x ≡ a
    → branch d reads bits test (run d reads bits x) (side None) r ≡ run d reads bits t r
unfolding run run_by_parts
form-If d reads bits t place test a x other r is none same =
    ap (λ (y : Stmt). branch d reads bits test (run d reads bits y) (side None) r) same
    ∙ at d reads bits t (s.If place test a None) (Stmt-F.If place test (run d reads bits a) None) r (is ∙ ap (s.If place test a) none)
    (ap (run d reads bits) (sym (s.rolls-If place test a None)) ∙ fold-roll-Stmt Step (run_by_parts d reads bits) (Stmt-F.If place test a None))

pub form-Either : (d : Parts) (reads bits : List ℕ) (t : Stmt) (place : Place) (test : Expr) (a x b y : Stmt) (other : Option Stmt) (r : Run) → t ≡ s.If place test a other → other ≡ Some b → x ≡ a → y ≡ b
    → branch d reads bits test (run d reads bits x) (side (Some (run d reads bits y))) r ≡ run d reads bits t r
unfolding run run_by_parts
form-Either d reads bits t place test a x b y other r is some one two =
    (λ k. branch d reads bits test (run d reads bits (one k)) (side (Some (run d reads bits (two k)))) r)
    ∙ at d reads bits t (s.If place test a (Some b)) (Stmt-F.If place test (run d reads bits a) (Some (run d reads bits b))) r (is ∙ ap (s.If place test a) some)
    (ap (run d reads bits) (sym (s.rolls-If place test a (Some b))) ∙ fold-roll-Stmt Step (run_by_parts d reads bits) (Stmt-F.If place test a (Some b)))

pub form-Case : (d : Parts) (reads bits : List ℕ) (t : Stmt) (place : Place) (how : Matching) (selector : Expr) (arms xs : List (Arm Stmt)) (r : Run) → t ≡ s.Case place how selector arms → xs ≡ arms
    → cases d reads bits how selector (map (with_body (run d reads bits)) xs) r ≡ run d reads bits t r
unfolding run run_by_parts
form-Case d reads bits t place how selector arms xs r is same =
    ap (λ (l : List (Arm Stmt)). cases d reads bits how selector (map (with_body (run d reads bits)) l) r) same
    ∙ at d reads bits t (s.Case place how selector arms) (Stmt-F.Case place how selector (map (with_body (run d reads bits)) arms)) r is
    (ap (run d reads bits) (sym (s.rolls-Case place how selector arms)) ∙ fold-roll-Stmt Step (run_by_parts d reads bits) (Stmt-F.Case place how selector arms))

pub form-For : (d : Parts) (reads bits : List ℕ) (t : Stmt) (place : Place) (h : Loop) (body x : Stmt) (r : Run) → t ≡ s.For place h body → x ≡ body → run d reads bits x r ≡ run d reads bits t r
unfolding run run_by_parts
form-For d reads bits t place h body x r is same =
    ap (λ (y : Stmt). run d reads bits y r) same
    ∙ at d reads bits t (s.For place h body) (Stmt-F.For place h (run d reads bits body)) r is
    (ap (run d reads bits) (sym (s.rolls-For place h body)) ∙ fold-roll-Stmt Step (run_by_parts d reads bits) (Stmt-F.For place h body))
