-- What each form of statement may assign.
use Rattle.std.proofs.Common.{◌≡◌, ℕ, List, [], ◌∷◌, ◌++◌, Option, Some, None, Ok, sym, ap, ◌∙◌}
use Rattle.rdc_outside.specs.declared.source.Place.{Place}
use Rattle.vlog_tree.specs.declared.expr.Expr.{Expr}
use Rattle.vlog_tree.specs.declared.ident.Ident.{Ident}
use Rattle.vlog_tree.specs.declared.stmt.Arm.{Arm}
use Rattle.vlog_tree.specs.declared.stmt.Assigns.{Assigns}
use Rattle.vlog_tree.specs.declared.stmt.Loop.{Loop}
use Rattle.vlog_tree.specs.declared.stmt.Matching.{Matching}
use Rattle.vlog_tree.specs.declared.stmt.Stmt.{Stmt, fold-roll-Stmt}
use Rattle.vlog_tree.specs.declared.stmt.Stmt.TheOpen.{Stmt-F}
use Rattle.vlog_tree.specs.declared.stmt.Stmt.TheVariants as s
use Rattle.vlog_proc.specs.Faults.{all_checked}
use Rattle.vlog_proc.specs.Uses.{then_also, named_targets}
use Rattle.vlog_proc.specs.Assigns.{Rule, Within, allowed, header_right, rights, rights_by_parts, side_right}
use Rattle.vlog_proc.proofs.Chains.{checked_map, with_body}

pub right-Empty : (r : Rule) (running : List (List ℕ)) (place : Place) → rights r (s.Empty place) running ≡ Ok tt
unfolding rights rights_by_parts
right-Empty r running place = ap (λ (t : Stmt). rights r t running) (sym (s.rolls-Empty place)) ∙ ap (λ (w : Within). w running) (fold-roll-Stmt Within (rights_by_parts r) (Stmt-F.Empty place))

pub right-Block : (r : Rule) (running : List (List ℕ)) (place : Place) (label : Option Ident) (inner : List Stmt) → rights r (s.Block place label inner) running ≡ all_checked (λ t. rights r t running) inner
unfolding rights rights_by_parts
right-Block r running place label inner = ap (λ (t : Stmt). rights r t running) (sym (s.rolls-Block place label inner)) ∙ ap (λ (w : Within). w running) (fold-roll-Stmt Within (rights_by_parts r) (Stmt-F.Block place label inner)) ∙ checked_map (λ (g : Within). g running) (rights r) inner

pub right-Assign : (r : Rule) (running : List (List ℕ)) (place : Place) (target : Expr) (by : Assigns) (value : Expr) → rights r (s.Assign place target by value) running ≡ named_targets (allowed r running by) target
unfolding rights rights_by_parts
right-Assign r running place target by value = ap (λ (t : Stmt). rights r t running) (sym (s.rolls-Assign place target by value)) ∙ ap (λ (w : Within). w running) (fold-roll-Stmt Within (rights_by_parts r) (Stmt-F.Assign place target by value))

pub right-If : (r : Rule) (running : List (List ℕ)) (place : Place) (test : Expr) (a : Stmt) (b : Option Stmt) → rights r (s.If place test a b) running ≡ then_also (rights r a running) (side_right (rights r) b running)
unfolding rights rights_by_parts side_right
right-If r running place test a None = ap (λ (t : Stmt). rights r t running) (sym (s.rolls-If place test a None)) ∙ ap (λ (w : Within). w running) (fold-roll-Stmt Within (rights_by_parts r) (Stmt-F.If place test a None))
right-If r running place test a (Some b) = ap (λ (t : Stmt). rights r t running) (sym (s.rolls-If place test a (Some b))) ∙ ap (λ (w : Within). w running) (fold-roll-Stmt Within (rights_by_parts r) (Stmt-F.If place test a (Some b)))

pub right-Case : (r : Rule) (running : List (List ℕ)) (place : Place) (how : Matching) (selector : Expr) (arms : List (Arm Stmt)) → rights r (s.Case place how selector arms) running ≡ all_checked (λ arm. rights r arm.body running) arms
unfolding rights rights_by_parts
right-Case r running place how selector arms = ap (λ (t : Stmt). rights r t running) (sym (s.rolls-Case place how selector arms)) ∙ ap (λ (w : Within). w running) (fold-roll-Stmt Within (rights_by_parts r) (Stmt-F.Case place how selector arms)) ∙ checked_map (λ (arm : Arm Within). arm.body running) (with_body (rights r)) arms

pub right-For : (r : Rule) (running : List (List ℕ)) (place : Place) (h : Loop) (body : Stmt) → rights r (s.For place h body) running ≡ then_also (header_right r h) (rights r body (running ++ h.variable.name ∷ []))
unfolding rights rights_by_parts
right-For r running place h body = ap (λ (t : Stmt). rights r t running) (sym (s.rolls-For place h body)) ∙ ap (λ (w : Within). w running) (fold-roll-Stmt Within (rights_by_parts r) (Stmt-F.For place h body))

-- each form of statement, for tactics
pub ruleset forms = (right-Empty, right-Block, right-Assign, right-If, right-Case, right-For)
