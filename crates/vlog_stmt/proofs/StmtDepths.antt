-- The depth of each form of statement.
use Rattle.std.proofs.Common.{◌≡◌, ℕ, ◌+◌, max, List, [], ◌∷◌, map, Option, Some, None, refl, sym, ap, ◌∙◌, arith}
use Rattle.rdc_outside.specs.declared.source.Place.{Place}
use Rattle.vlog_tree.specs.declared.ident.Ident.{Ident}
use Rattle.vlog_tree.specs.declared.expr.Expr.{Expr}
use Rattle.vlog_tree.specs.declared.stmt.Assigns.{Assigns}
use Rattle.vlog_tree.specs.declared.stmt.Matching.{Matching}
use Rattle.vlog_tree.specs.declared.stmt.Arm.{Arm}
use Rattle.vlog_tree.specs.declared.stmt.Loop.{Loop}
use Rattle.vlog_tree.specs.declared.stmt.Stmt.{Stmt, Stmt-F, fold-roll-Stmt}
use Rattle.vlog_tree.specs.declared.stmt.Stmt.TheVariants as s
use Rattle.vlog_tree.specs.Depth.{depth, deepest, deepest_of, deepest_if, depth_of_label, depth_of_loop, depth_of_arm, stmt_by_parts, depth_of_stmt}

pub depth-Empty : (place : Place) → depth_of_stmt (s.Empty place) ≡ 1
unfolding depth_of_stmt stmt_by_parts
depth-Empty place = ap depth_of_stmt (sym (s.rolls-Empty place)) ∙ fold-roll-Stmt ℕ stmt_by_parts (Stmt-F.Empty place)

pub depth-Block : (place : Place) (label : Option Ident) (ss : List Stmt) → depth_of_stmt (s.Block place label ss) ≡ 1 + max (depth_of_label label) (deepest_of depth_of_stmt ss)
unfolding depth_of_stmt stmt_by_parts
depth-Block place label ss = ap depth_of_stmt (sym (s.rolls-Block place label ss)) ∙ fold-roll-Stmt ℕ stmt_by_parts (Stmt-F.Block place label ss)

pub depth-Assign : (place : Place) (target : Expr) (by : Assigns) (value : Expr) → depth_of_stmt (s.Assign place target by value) ≡ 1 + max (depth target) (depth value)
unfolding depth_of_stmt stmt_by_parts
depth-Assign place target by value = ap depth_of_stmt (sym (s.rolls-Assign place target by value)) ∙ fold-roll-Stmt ℕ stmt_by_parts (Stmt-F.Assign place target by value)

-- of a statement that may be left out
unfoldable pub depth_of_stmt_if : Option Stmt → ℕ
depth_of_stmt_if None = 0
depth_of_stmt_if (Some b) = depth_of_stmt b

pub depth-If : (place : Place) (test : Expr) (a : Stmt) (b : Option Stmt) → depth_of_stmt (s.If place test a b) ≡ 1 + max (depth test) (max (depth_of_stmt a) (depth_of_stmt_if b))
unfolding depth_of_stmt stmt_by_parts depth_of_stmt_if deepest deepest_if
depth-If place test a None = let e = ap depth_of_stmt (sym (s.rolls-If place test a None)) ∙ fold-roll-Stmt ℕ stmt_by_parts (Stmt-F.If place test a None) in omega arith
depth-If place test a (Some b) = let e = ap depth_of_stmt (sym (s.rolls-If place test a (Some b))) ∙ fold-roll-Stmt ℕ stmt_by_parts (Stmt-F.If place test a (Some b)) in omega arith

pub depth-If-alone : (place : Place) (test : Expr) (a : Stmt) → depth_of_stmt (s.If place test a None) ≡ 1 + max (depth test) (depth_of_stmt a)
unfolding depth_of_stmt_if
depth-If-alone place test a = let e = depth-If place test a None in omega arith

pub depth-If-else : (place : Place) (test : Expr) (a b : Stmt) → depth_of_stmt (s.If place test a (Some b)) ≡ 1 + max (depth test) (max (depth_of_stmt a) (depth_of_stmt b))
unfolding depth_of_stmt_if
depth-If-else place test a b = depth-If place test a (Some b)

-- of a case item
unfoldable pub arm_depth : Arm Stmt → ℕ
arm_depth a = max (deepest_of depth a.labels) (depth_of_stmt a.body)

pub arm-is : (place : Place) (labels : List Expr) (body : Stmt) → arm_depth (record { place = place; labels = labels; body = body }) ≡ max (deepest_of depth labels) (depth_of_stmt body)
unfolding arm_depth
arm-is place labels body = refl

twice : {A B : Type 0} (f : B → ℕ) (g : A → B) (h : A → ℕ) → ((a : A) → f (g a) ≡ h a) → (xs : List A) → map f (map g xs) ≡ map h xs
twice f g h same [] = refl
twice f g h same (x ∷ xs) = ap (λ n. n ∷ map f (map g xs)) (same x) ∙ ap (λ ns. h x ∷ ns) (twice f g h same xs)

pub depth-Case : (place : Place) (matching : Matching) (selector : Expr) (arms : List (Arm Stmt)) → depth_of_stmt (s.Case place matching selector arms) ≡ 1 + max (depth selector) (deepest_of arm_depth arms)
unfolding depth_of_stmt stmt_by_parts depth_of_arm arm_depth
depth-Case place matching selector arms =
    ap depth_of_stmt (sym (s.rolls-Case place matching selector arms)) ∙ (fold-roll-Stmt ℕ stmt_by_parts (Stmt-F.Case place matching selector arms) ∙ ap (λ ns. 1 + max (depth selector) (deepest ns)) (twice depth_of_arm _ arm_depth (λ a. refl) arms))

pub depth-For : (place : Place) (header : Loop) (body : Stmt) → depth_of_stmt (s.For place header body) ≡ 1 + max (depth_of_loop header) (depth_of_stmt body)
unfolding depth_of_stmt stmt_by_parts
depth-For place header body = ap depth_of_stmt (sym (s.rolls-For place header body)) ∙ fold-roll-Stmt ℕ stmt_by_parts (Stmt-F.For place header body)

pub deepest_one : {A : Type 0} (d : A → ℕ) (x : A) (xs : List A) → deepest_of d (x ∷ xs) ≡ max (d x) (deepest_of d xs)
unfolding deepest
deepest_one d x xs = refl

pub deepest_none : {A : Type 0} (d : A → ℕ) → deepest_of d [] ≡ 0
unfolding deepest
deepest_none d = refl
