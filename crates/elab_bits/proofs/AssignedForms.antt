-- Which bits each form of statement assigns, behind what is there.
use Rattle.std.proofs.Common.{◌≡◌, ℕ, List, [], ◌++◌, Option, Some, None, if◌then◌else◌, sym, ap, ◌∙◌}
use Rattle.std.specs.List.{flat_map}
use Rattle.std.proofs.lemmas.List.{append-nil, append_assoc}
use Rattle.rdc_outside.specs.declared.source.Place.{Place}
use Rattle.vlog_tree.specs.declared.expr.Expr.{Expr}
use Rattle.vlog_tree.specs.declared.ident.Ident.{Ident}
use Rattle.vlog_tree.specs.declared.stmt.Arm.{Arm}
use Rattle.vlog_tree.specs.declared.stmt.Assigns.{Assigns}
use Rattle.vlog_tree.specs.declared.stmt.Loop.{Loop}
use Rattle.vlog_tree.specs.declared.stmt.Matching.{Matching}
use Rattle.vlog_tree.specs.declared.stmt.Stmt.{Stmt, fold-roll-Stmt}
use Rattle.vlog_tree.specs.declared.stmt.Stmt.TheOpen.{Stmt-F}
use Rattle.vlog_tree.specs.declared.stmt.Stmt.TheVariants as s
use Rattle.design_form.specs.declared.signal.Signal.{Signal}
use Rattle.elab_bits.specs.Targets.{targets}
use Rattle.elab_bits.specs.Bodies.{assigned, assigned_by_parts, is_of, side}
use Rattle.elab_bits.proofs.Rows.{all_of, bodies_of}

plain-Empty : (ss : List Signal) (kind : Option Assigns) (place : Place) → assigned ss kind (s.Empty place) ≡ []
unfolding assigned assigned_by_parts side
plain-Empty ss kind place = ap (assigned ss kind) (sym (s.rolls-Empty place)) ∙ fold-roll-Stmt (List ℕ) (assigned_by_parts ss kind) (Stmt-F.Empty place)

pub behind-Empty : (ss : List Signal) (kind : Option Assigns) (xs : List ℕ) (place : Place) → xs ++ assigned ss kind (s.Empty place) ≡ xs
behind-Empty ss kind xs place = ap (λ (r : (List ℕ)). xs ++ r) (plain-Empty ss kind place) ∙ append-nil xs

plain-Block : (ss : List Signal) (kind : Option Assigns) (place : Place) (label : Option Ident) (inner : List Stmt) → assigned ss kind (s.Block place label inner) ≡ flat_map (assigned ss kind) inner
unfolding assigned assigned_by_parts side
plain-Block ss kind place label inner = ap (assigned ss kind) (sym (s.rolls-Block place label inner)) ∙ fold-roll-Stmt (List ℕ) (assigned_by_parts ss kind) (Stmt-F.Block place label inner) ∙ all_of (assigned ss kind) inner

pub behind-Block : (ss : List Signal) (kind : Option Assigns) (xs : List ℕ) (place : Place) (label : Option Ident) (inner : List Stmt) → xs ++ assigned ss kind (s.Block place label inner) ≡ xs ++ flat_map (assigned ss kind) inner
behind-Block ss kind xs place label inner = ap (λ (r : (List ℕ)). xs ++ r) (plain-Block ss kind place label inner)

plain-Assign : (ss : List Signal) (kind : Option Assigns) (place : Place) (target : Expr) (by : Assigns) (value : Expr) → assigned ss kind (s.Assign place target by value) ≡ (if is_of kind by then targets ss target else [])
unfolding assigned assigned_by_parts side
plain-Assign ss kind place target by value = ap (assigned ss kind) (sym (s.rolls-Assign place target by value)) ∙ fold-roll-Stmt (List ℕ) (assigned_by_parts ss kind) (Stmt-F.Assign place target by value)

pub behind-Assign : (ss : List Signal) (kind : Option Assigns) (xs : List ℕ) (place : Place) (target : Expr) (by : Assigns) (value : Expr) → xs ++ assigned ss kind (s.Assign place target by value) ≡ xs ++ (if is_of kind by then targets ss target else [])
behind-Assign ss kind xs place target by value = ap (λ (r : (List ℕ)). xs ++ r) (plain-Assign ss kind place target by value)

plain-If-None : (ss : List Signal) (kind : Option Assigns) (place : Place) (test : Expr) (a : Stmt) → assigned ss kind (s.If place test a None) ≡ assigned ss kind a
unfolding assigned assigned_by_parts side
plain-If-None ss kind place test a = ap (assigned ss kind) (sym (s.rolls-If place test a None)) ∙ fold-roll-Stmt (List ℕ) (assigned_by_parts ss kind) (Stmt-F.If place test a None) ∙ append-nil (assigned ss kind a)

pub behind-If-None : (ss : List Signal) (kind : Option Assigns) (xs : List ℕ) (place : Place) (test : Expr) (a : Stmt) → xs ++ assigned ss kind (s.If place test a None) ≡ xs ++ assigned ss kind a
behind-If-None ss kind xs place test a = ap (λ (r : (List ℕ)). xs ++ r) (plain-If-None ss kind place test a)

plain-If-Some : (ss : List Signal) (kind : Option Assigns) (place : Place) (test : Expr) (a b : Stmt) → assigned ss kind (s.If place test a (Some b)) ≡ assigned ss kind a ++ assigned ss kind b
unfolding assigned assigned_by_parts side
plain-If-Some ss kind place test a b = ap (assigned ss kind) (sym (s.rolls-If place test a (Some b))) ∙ fold-roll-Stmt (List ℕ) (assigned_by_parts ss kind) (Stmt-F.If place test a (Some b))

pub behind-If-Some : (ss : List Signal) (kind : Option Assigns) (xs : List ℕ) (place : Place) (test : Expr) (a b : Stmt) → xs ++ assigned ss kind (s.If place test a (Some b)) ≡ (xs ++ assigned ss kind a) ++ assigned ss kind b
behind-If-Some ss kind xs place test a b = ap (λ (r : (List ℕ)). xs ++ r) (plain-If-Some ss kind place test a b) ∙ sym (append_assoc xs (assigned ss kind a) (assigned ss kind b))

plain-Case : (ss : List Signal) (kind : Option Assigns) (place : Place) (how : Matching) (selector : Expr) (arms : List (Arm Stmt)) → assigned ss kind (s.Case place how selector arms) ≡ flat_map (λ (arm : Arm Stmt). assigned ss kind arm.body) arms
unfolding assigned assigned_by_parts side
plain-Case ss kind place how selector arms = ap (assigned ss kind) (sym (s.rolls-Case place how selector arms)) ∙ fold-roll-Stmt (List ℕ) (assigned_by_parts ss kind) (Stmt-F.Case place how selector arms) ∙ bodies_of (assigned ss kind) (λ (arm : Arm (List ℕ)). arm.body) arms

pub behind-Case : (ss : List Signal) (kind : Option Assigns) (xs : List ℕ) (place : Place) (how : Matching) (selector : Expr) (arms : List (Arm Stmt)) → xs ++ assigned ss kind (s.Case place how selector arms) ≡ xs ++ flat_map (λ (arm : Arm Stmt). assigned ss kind arm.body) arms
behind-Case ss kind xs place how selector arms = ap (λ (r : (List ℕ)). xs ++ r) (plain-Case ss kind place how selector arms)

plain-For : (ss : List Signal) (kind : Option Assigns) (place : Place) (h : Loop) (body : Stmt) → assigned ss kind (s.For place h body) ≡ assigned ss kind body
unfolding assigned assigned_by_parts side
plain-For ss kind place h body = ap (assigned ss kind) (sym (s.rolls-For place h body)) ∙ fold-roll-Stmt (List ℕ) (assigned_by_parts ss kind) (Stmt-F.For place h body)

pub behind-For : (ss : List Signal) (kind : Option Assigns) (xs : List ℕ) (place : Place) (h : Loop) (body : Stmt) → xs ++ assigned ss kind (s.For place h body) ≡ xs ++ assigned ss kind body
behind-For ss kind xs place h body = ap (λ (r : (List ℕ)). xs ++ r) (plain-For ss kind place h body)

-- each form of statement, for tactics
pub ruleset forms = (behind-Empty, behind-Block, behind-Assign, behind-If-None, behind-If-Some, behind-Case, behind-For)
