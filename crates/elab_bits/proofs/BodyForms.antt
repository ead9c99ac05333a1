-- What each form of statement reads, behind what is there.
use Rattle.std.proofs.Common.{◌≡◌, List, [], ◌++◌, Option, Some, None, sym, ap, ◌∙◌}
use Rattle.std.specs.List.{flat_map}
use Rattle.std.proofs.lemmas.List.{append-nil, append_assoc}
use Rattle.rdc_outside.specs.declared.source.Place.{Place}
use Rattle.vlog_tree.specs.declared.expr.Expr.{Expr}
use Rattle.vlog_tree.specs.declared.ident.Ident.{Ident}
use Rattle.vlog_tree.specs.declared.stmt.Arm.{Arm}
use Rattle.vlog_tree.specs.declared.stmt.Assigns.{Assigns}
use Rattle.vlog_tree.specs.declared.stmt.Loop.{Loop}
use Rattle.vlog_tree.specs.declared.stmt.Matching.{Matching}
use Rattle.vlog_tree.specs.declared.stmt.Stmt.{Stmt, fold-roll-Stmt}
use Rattle.vlog_tree.specs.declared.stmt.Stmt.TheOpen.{Stmt-F}
use Rattle.vlog_tree.specs.declared.stmt.Stmt.TheVariants as s
use Rattle.design_form.specs.declared.signal.Signal.{Signal}
use Rattle.elab_bits.specs.declared.touch.Touch.{Touch}
use Rattle.elab_bits.specs.Reads.{reads}
use Rattle.elab_bits.specs.Targets.{target_reads}
use Rattle.elab_bits.specs.Bodies.{arm_reads, body_reads, body_by_parts, side}
use Rattle.elab_bits.proofs.Rows.{all_of, bodies_of}

plain-Empty : (ss : List Signal) (place : Place) → body_reads ss (s.Empty place) ≡ []
unfolding body_reads body_by_parts side
plain-Empty ss place = ap (body_reads ss) (sym (s.rolls-Empty place)) ∙ fold-roll-Stmt (List Touch) (body_by_parts ss) (Stmt-F.Empty place)

pub behind-Empty : (ss : List Signal) (xs : List Touch) (place : Place) → xs ++ body_reads ss (s.Empty place) ≡ xs
behind-Empty ss xs place = ap (λ (r : (List Touch)). xs ++ r) (plain-Empty ss place) ∙ append-nil xs

plain-Block : (ss : List Signal) (place : Place) (label : Option Ident) (inner : List Stmt) → body_reads ss (s.Block place label inner) ≡ flat_map (body_reads ss) inner
unfolding body_reads body_by_parts side
plain-Block ss place label inner = ap (body_reads ss) (sym (s.rolls-Block place label inner)) ∙ fold-roll-Stmt (List Touch) (body_by_parts ss) (Stmt-F.Block place label inner) ∙ all_of (body_reads ss) inner

pub behind-Block : (ss : List Signal) (xs : List Touch) (place : Place) (label : Option Ident) (inner : List Stmt) → xs ++ body_reads ss (s.Block place label inner) ≡ xs ++ flat_map (body_reads ss) inner
behind-Block ss xs place label inner = ap (λ (r : (List Touch)). xs ++ r) (plain-Block ss place label inner)

plain-Assign : (ss : List Signal) (place : Place) (target : Expr) (by : Assigns) (value : Expr) → body_reads ss (s.Assign place target by value) ≡ target_reads ss target ++ reads ss value
unfolding body_reads body_by_parts side
plain-Assign ss place target by value = ap (body_reads ss) (sym (s.rolls-Assign place target by value)) ∙ fold-roll-Stmt (List Touch) (body_by_parts ss) (Stmt-F.Assign place target by value)

pub behind-Assign : (ss : List Signal) (xs : List Touch) (place : Place) (target : Expr) (by : Assigns) (value : Expr) → xs ++ body_reads ss (s.Assign place target by value) ≡ (xs ++ target_reads ss target) ++ reads ss value
behind-Assign ss xs place target by value = ap (λ (r : (List Touch)). xs ++ r) (plain-Assign ss place target by value) ∙ sym (append_assoc xs (target_reads ss target) (reads ss value))

plain-If-None : (ss : List Signal) (place : Place) (test : Expr) (a : Stmt) → body_reads ss (s.If place test a None) ≡ reads ss test ++ body_reads ss a
unfolding body_reads body_by_parts side
plain-If-None ss place test a = ap (body_reads ss) (sym (s.rolls-If place test a None)) ∙ fold-roll-Stmt (List Touch) (body_by_parts ss) (Stmt-F.If place test a None) ∙ ap (λ (r : List Touch). reads ss test ++ r) (append-nil (body_reads ss a))

pub behind-If-None : (ss : List Signal) (xs : List Touch) (place : Place) (test : Expr) (a : Stmt) → xs ++ body_reads ss (s.If place test a None) ≡ (xs ++ reads ss test) ++ body_reads ss a
behind-If-None ss xs place test a = ap (λ (r : (List Touch)). xs ++ r) (plain-If-None ss place test a) ∙ sym (append_assoc xs (reads ss test) (body_reads ss a))

plain-If-Some : (ss : List Signal) (place : Place) (test : Expr) (a b : Stmt) → body_reads ss (s.If place test a (Some b)) ≡ reads ss test ++ (body_reads ss a ++ body_reads ss b)
unfolding body_reads body_by_parts side
plain-If-Some ss place test a b = ap (body_reads ss) (sym (s.rolls-If place test a (Some b))) ∙ fold-roll-Stmt (List Touch) (body_by_parts ss) (Stmt-F.If place test a (Some b))

pub behind-If-Some : (ss : List Signal) (xs : List Touch) (place : Place) (test : Expr) (a b : Stmt) → xs ++ body_reads ss (s.If place test a (Some b)) ≡ ((xs ++ reads ss test) ++ body_reads ss a) ++ body_reads ss b
behind-If-Some ss xs place test a b = ap (λ (r : (List Touch)). xs ++ r) (plain-If-Some ss place test a b) ∙ sym (append_assoc xs (reads ss test) (body_reads ss a ++ body_reads ss b)) ∙ sym (append_assoc (xs ++ reads ss test) (body_reads ss a) (body_reads ss b))

plain-Case : (ss : List Signal) (place : Place) (how : Matching) (selector : Expr) (arms : List (Arm Stmt)) → body_reads ss (s.Case place how selector arms) ≡ reads ss selector ++ flat_map (arm_reads ss (body_reads ss)) arms
unfolding body_reads body_by_parts side
plain-Case ss place how selector arms = ap (body_reads ss) (sym (s.rolls-Case place how selector arms)) ∙ fold-roll-Stmt (List Touch) (body_by_parts ss) (Stmt-F.Case place how selector arms) ∙ ap (λ (r : List Touch). reads ss selector ++ r) (bodies_of (body_reads ss) (arm_reads ss (λ (ts : List Touch). ts)) arms)

pub behind-Case : (ss : List Signal) (xs : List Touch) (place : Place) (how : Matching) (selector : Expr) (arms : List (Arm Stmt)) → xs ++ body_reads ss (s.Case place how selector arms) ≡ (xs ++ reads ss selector) ++ flat_map (arm_reads ss (body_reads ss)) arms
behind-Case ss xs place how selector arms = ap (λ (r : (List Touch)). xs ++ r) (plain-Case ss place how selector arms) ∙ sym (append_assoc xs (reads ss selector) (flat_map (arm_reads ss (body_reads ss)) arms))

plain-For : (ss : List Signal) (place : Place) (h : Loop) (body : Stmt) → body_reads ss (s.For place h body) ≡ body_reads ss body
unfolding body_reads body_by_parts side
plain-For ss place h body = ap (body_reads ss) (sym (s.rolls-For place h body)) ∙ fold-roll-Stmt (List Touch) (body_by_parts ss) (Stmt-F.For place h body)

pub behind-For : (ss : List Signal) (xs : List Touch) (place : Place) (h : Loop) (body : Stmt) → xs ++ body_reads ss (s.For place h body) ≡ xs ++ body_reads ss body
behind-For ss xs place h body = ap (λ (r : (List Touch)). xs ++ r) (plain-For ss place h body)

-- each form of statement, for tactics
pub ruleset forms = (behind-Empty, behind-Block, behind-Assign, behind-If-None, behind-If-Some, behind-Case, behind-For)
