-- What each form of statement assigns.
use Rattle.std.proofs.Common.{◌≡◌, ℕ, List, [], ◌++◌, Option, Some, None, refl, sym, ap, ◌∙◌}
use Rattle.std.specs.List.{flat_map}
use Rattle.std.specs.Option.{option_map, unwrap_or}
use Rattle.rdc_outside.specs.declared.source.Place.{Place}
use Rattle.vlog_tree.specs.declared.expr.Expr.{Expr}
use Rattle.vlog_tree.specs.declared.ident.Ident.{Ident}
use Rattle.vlog_tree.specs.declared.stmt.Arm.{Arm}
use Rattle.vlog_tree.specs.declared.stmt.Assigns.{Assigns}
use Rattle.vlog_tree.specs.declared.stmt.Loop.{Loop}
use Rattle.vlog_tree.specs.declared.stmt.Matching.{Matching}
use Rattle.vlog_tree.specs.declared.stmt.Stmt.{Stmt, fold-roll-Stmt}
use Rattle.vlog_tree.specs.declared.stmt.Stmt.TheOpen.{Stmt-F}
use Rattle.vlog_tree.specs.declared.stmt.Stmt.TheVariants.{Empty, Block, Assign, If, Case, For, rolls-Empty, rolls-Block, rolls-Assign, rolls-If, rolls-Case, rolls-For}
use Rattle.design_form.specs.declared.parts.Parts.{Parts}
use Rattle.elab_weight.specs.TargetBits.{assigned_bits, assigned_by_parts, target_bits}
use Rattle.elab_weight.proofs.Flat.{flat_map-map}

pub assigned-Empty : (d : Parts) (place : Place) → assigned_bits d (Empty place) ≡ []
unfolding assigned_bits assigned_by_parts
assigned-Empty d place = ap (assigned_bits d) (sym (rolls-Empty place)) ∙ fold-roll-Stmt (List ℕ) (assigned_by_parts d) (Stmt-F.Empty place)

pub assigned-Block : (d : Parts) (place : Place) (label : Option Ident) (ss : List Stmt) → assigned_bits d (Block place label ss) ≡ flat_map (assigned_bits d) ss
unfolding assigned_bits assigned_by_parts
assigned-Block d place label ss = ap (assigned_bits d) (sym (rolls-Block place label ss)) ∙ fold-roll-Stmt (List ℕ) (assigned_by_parts d) (Stmt-F.Block place label ss) ∙ flat_map-map (λ s. s) (assigned_bits d) (assigned_bits d) (λ s. refl) ss

pub assigned-Assign : (d : Parts) (place : Place) (target : Expr) (by : Assigns) (value : Expr) → assigned_bits d (Assign place target by value) ≡ target_bits d target
unfolding assigned_bits assigned_by_parts
assigned-Assign d place target by value = ap (assigned_bits d) (sym (rolls-Assign place target by value)) ∙ fold-roll-Stmt (List ℕ) (assigned_by_parts d) (Stmt-F.Assign place target by value)

pub assigned-If : (d : Parts) (place : Place) (test : Expr) (a : Stmt) (b : Option Stmt) → assigned_bits d (If place test a b) ≡ assigned_bits d a ++ unwrap_or (option_map (assigned_bits d) b) []
unfolding assigned_bits assigned_by_parts
assigned-If d place test a None = ap (assigned_bits d) (sym (rolls-If place test a None)) ∙ fold-roll-Stmt (List ℕ) (assigned_by_parts d) (Stmt-F.If place test a None)
assigned-If d place test a (Some b) = ap (assigned_bits d) (sym (rolls-If place test a (Some b))) ∙ fold-roll-Stmt (List ℕ) (assigned_by_parts d) (Stmt-F.If place test a (Some b))

pub assigned-Case : (d : Parts) (place : Place) (how : Matching) (selector : Expr) (arms : List (Arm Stmt)) → assigned_bits d (Case place how selector arms) ≡ flat_map (λ a. assigned_bits d a.body) arms
unfolding assigned_bits assigned_by_parts
assigned-Case d place how selector arms = ap (assigned_bits d) (sym (rolls-Case place how selector arms)) ∙ fold-roll-Stmt (List ℕ) (assigned_by_parts d) (Stmt-F.Case place how selector arms) ∙ flat_map-map (λ a. a.body) _ (λ a. assigned_bits d a.body) (λ a. refl) arms

pub assigned-For : (d : Parts) (place : Place) (h : Loop) (body : Stmt) → assigned_bits d (For place h body) ≡ assigned_bits d body
unfolding assigned_bits assigned_by_parts
assigned-For d place h body = ap (assigned_bits d) (sym (rolls-For place h body)) ∙ fold-roll-Stmt (List ℕ) (assigned_by_parts d) (Stmt-F.For place h body)

-- each form of statement, for tactics
pub ruleset forms = (assigned-Empty, assigned-Block, assigned-Assign, assigned-If, assigned-Case, assigned-For)
