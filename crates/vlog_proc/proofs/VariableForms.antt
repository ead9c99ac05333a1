-- The variables of the loops of each form of statement, behind what is there.
use Rattle.std.proofs.Common.{◌≡◌, ℕ, List, [], ◌∷◌, ◌++◌, Option, Some, None, sym, ap, ◌∙◌}
use Rattle.std.specs.List.{flat_map}
use Rattle.std.proofs.lemmas.List.{append-nil, append_assoc}
use Rattle.rdc_outside.specs.declared.source.Place.{Place}
use Rattle.vlog_tree.specs.declared.expr.Expr.{Expr}
use Rattle.vlog_tree.specs.declared.ident.Ident.{Ident}
use Rattle.vlog_tree.specs.declared.stmt.Arm.{Arm}
use Rattle.vlog_tree.specs.declared.stmt.Assigns.{Assigns}
use Rattle.vlog_tree.specs.declared.stmt.Loop.{Loop}
use Rattle.vlog_tree.specs.declared.stmt.Matching.{Matching}
use Rattle.vlog_tree.specs.declared.stmt.Stmt.{Stmt, fold-roll-Stmt}
use Rattle.vlog_tree.specs.declared.stmt.Stmt.TheOpen.{Stmt-F}
use Rattle.vlog_tree.specs.declared.stmt.Stmt.TheVariants as s
use Rattle.elab_bits.specs.Bodies.{side}
use Rattle.vlog_proc.specs.Assigns.{loop_variables, variables_by_parts}
use Rattle.vlog_proc.proofs.Rows.{all_of, bodies_of}

plain-Empty : (place : Place) → loop_variables (s.Empty place) ≡ []
unfolding loop_variables variables_by_parts side
plain-Empty place = ap loop_variables (sym (s.rolls-Empty place)) ∙ fold-roll-Stmt (List (List ℕ)) variables_by_parts (Stmt-F.Empty place)

pub behind-Empty : (xs : List (List ℕ)) (place : Place) → xs ++ loop_variables (s.Empty place) ≡ xs
behind-Empty xs place = ap (λ (r : List (List ℕ)). xs ++ r) (plain-Empty place) ∙ append-nil xs

plain-Block : (place : Place) (label : Option Ident) (inner : List Stmt) → loop_variables (s.Block place label inner) ≡ flat_map loop_variables inner
unfolding loop_variables variables_by_parts side
plain-Block place label inner = ap loop_variables (sym (s.rolls-Block place label inner)) ∙ fold-roll-Stmt (List (List ℕ)) variables_by_parts (Stmt-F.Block place label inner) ∙ all_of loop_variables inner

pub behind-Block : (xs : List (List ℕ)) (place : Place) (label : Option Ident) (inner : List Stmt) → xs ++ loop_variables (s.Block place label inner) ≡ xs ++ flat_map loop_variables inner
behind-Block xs place label inner = ap (λ (r : List (List ℕ)). xs ++ r) (plain-Block place label inner)

plain-Assign : (place : Place) (target : Expr) (by : Assigns) (value : Expr) → loop_variables (s.Assign place target by value) ≡ []
unfolding loop_variables variables_by_parts side
plain-Assign place target by value = ap loop_variables (sym (s.rolls-Assign place target by value)) ∙ fold-roll-Stmt (List (List ℕ)) variables_by_parts (Stmt-F.Assign place target by value)

pub behind-Assign : (xs : List (List ℕ)) (place : Place) (target : Expr) (by : Assigns) (value : Expr) → xs ++ loop_variables (s.Assign place target by value) ≡ xs
behind-Assign xs place target by value = ap (λ (r : List (List ℕ)). xs ++ r) (plain-Assign place target by value) ∙ append-nil xs

plain-Case : (place : Place) (how : Matching) (selector : Expr) (arms : List (Arm Stmt)) → loop_variables (s.Case place how selector arms) ≡ flat_map (λ (arm : Arm Stmt). loop_variables arm.body) arms
unfolding loop_variables variables_by_parts side
plain-Case place how selector arms = ap loop_variables (sym (s.rolls-Case place how selector arms)) ∙ fold-roll-Stmt (List (List ℕ)) variables_by_parts (Stmt-F.Case place how selector arms) ∙ bodies_of loop_variables (λ (arm : Arm (List (List ℕ))). arm.body) arms

pub behind-Case : (xs : List (List ℕ)) (place : Place) (how : Matching) (selector : Expr) (arms : List (Arm Stmt)) → xs ++ loop_variables (s.Case place how selector arms) ≡ xs ++ flat_map (λ (arm : Arm Stmt). loop_variables arm.body) arms
behind-Case xs place how selector arms = ap (λ (r : List (List ℕ)). xs ++ r) (plain-Case place how selector arms)

plain-For : (place : Place) (h : Loop) (body : Stmt) → loop_variables (s.For place h body) ≡ h.variable.name ∷ loop_variables body
unfolding loop_variables variables_by_parts side
plain-For place h body = ap loop_variables (sym (s.rolls-For place h body)) ∙ fold-roll-Stmt (List (List ℕ)) variables_by_parts (Stmt-F.For place h body)

pub behind-For : (xs : List (List ℕ)) (place : Place) (h : Loop) (body : Stmt) → xs ++ loop_variables (s.For place h body) ≡ (xs ++ h.variable.name ∷ []) ++ loop_variables body
behind-For xs place h body = ap (λ (r : List (List ℕ)). xs ++ r) (plain-For place h body) ∙ sym (append_assoc xs (h.variable.name ∷ []) (loop_variables body))

plain-If-None : (place : Place) (test : Expr) (a : Stmt) → loop_variables (s.If place test a None) ≡ loop_variables a
unfolding loop_variables variables_by_parts side
plain-If-None place test a = ap loop_variables (sym (s.rolls-If place test a None)) ∙ fold-roll-Stmt (List (List ℕ)) variables_by_parts (Stmt-F.If place test a None) ∙ append-nil (loop_variables a)

pub behind-If-None : (xs : List (List ℕ)) (place : Place) (test : Expr) (a : Stmt) → xs ++ loop_variables (s.If place test a None) ≡ xs ++ loop_variables a
behind-If-None xs place test a = ap (λ (r : List (List ℕ)). xs ++ r) (plain-If-None place test a)

plain-If-Some : (place : Place) (test : Expr) (a b : Stmt) → loop_variables (s.If place test a (Some b)) ≡ loop_variables a ++ loop_variables b
unfolding loop_variables variables_by_parts side
plain-If-Some place test a b = ap loop_variables (sym (s.rolls-If place test a (Some b))) ∙ fold-roll-Stmt (List (List ℕ)) variables_by_parts (Stmt-F.If place test a (Some b))

pub behind-If-Some : (xs : List (List ℕ)) (place : Place) (test : Expr) (a b : Stmt) → xs ++ loop_variables (s.If place test a (Some b)) ≡ (xs ++ loop_variables a) ++ loop_variables b
behind-If-Some xs place test a b = ap (λ (r : List (List ℕ)). xs ++ r) (plain-If-Some place test a b) ∙ sym (append_assoc xs (loop_variables a) (loop_variables b))

-- each form of statement, for tactics
pub ruleset forms = (behind-Empty, behind-Block, behind-Assign, behind-Case, behind-For, behind-If-None, behind-If-Some)
