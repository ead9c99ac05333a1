-- What each form of statement is in a scope.
use Rattle.std.proofs.Common.{◌≡◌, List, [], ◌∷◌, map, Option, Some, None, Ok, refl, sym, ap, subst, ◌∙◌}
use Rattle.std.specs.Option.{option_map}
use Rattle.rdc_outside.specs.declared.source.Place.{Place}
use Rattle.vlog_tree.specs.declared.ident.Ident.{Ident}
use Rattle.vlog_tree.specs.declared.expr.Expr.{Expr}
use Rattle.vlog_tree.specs.declared.stmt.Arm.{Arm}
use Rattle.vlog_tree.specs.declared.stmt.Assigns.{Assigns}
use Rattle.vlog_tree.specs.declared.stmt.Matching.{Matching}
use Rattle.vlog_tree.specs.declared.stmt.Loop.{Loop}
use Rattle.vlog_tree.specs.declared.stmt.Stmt.{Stmt, fold-roll-Stmt}
use Rattle.vlog_tree.specs.declared.stmt.Stmt.TheOpen.{Stmt-F}
use Rattle.vlog_tree.specs.declared.stmt.Stmt.TheVariants.{Empty, Block, Assign, If, Case, For, rolls-Empty, rolls-Block, rolls-Assign, rolls-If, rolls-Case, rolls-For}
use Rattle.elab_names.specs.Answers.{Answers, Or_fault, and_then, gathered, optional}
use Rattle.elab_names.specs.Meanings.{Frames}
use Rattle.elab_names.specs.Expressions.{put_in}
use Rattle.elab_names.specs.Targets.{target_in}
use Rattle.elab_names.specs.Statements.{arm_in, arm_with, loop_in, statement_in, statement_by_parts}

pub statement-Empty : (frames : Frames) (place : Place) → statement_in frames (Empty place) ≡ Ok (Empty place)
unfolding statement_in statement_by_parts
statement-Empty frames place = ap (statement_in frames) (sym (rolls-Empty place)) ∙ fold-roll-Stmt (Or_fault Stmt) (statement_by_parts frames) (Stmt-F.Empty place)

pub statement-Block : (frames : Frames) (place : Place) (label : Option Ident) (ss : List Stmt) → statement_in frames (Block place label ss) ≡ and_then (gathered (map (statement_in frames) ss)) (λ xs. Ok (Block place None xs))
unfolding statement_in statement_by_parts
statement-Block frames place label ss = ap (statement_in frames) (sym (rolls-Block place label ss)) ∙ fold-roll-Stmt (Or_fault Stmt) (statement_by_parts frames) (Stmt-F.Block place label ss)

pub statement-Assign : (frames : Frames) (place : Place) (target : Expr) (by : Assigns) (value : Expr) → statement_in frames (Assign place target by value) ≡ and_then (target_in frames target) (λ t. and_then (put_in frames value) (λ v. Ok (Assign place t by v)))
unfolding statement_in statement_by_parts
statement-Assign frames place target by value = ap (statement_in frames) (sym (rolls-Assign place target by value)) ∙ fold-roll-Stmt (Or_fault Stmt) (statement_by_parts frames) (Stmt-F.Assign place target by value)

pub statement-If : (frames : Frames) (place : Place) (test : Expr) (a : Stmt) (b : Option Stmt) → statement_in frames (If place test a b) ≡ and_then (put_in frames test) (λ t. and_then (statement_in frames a) (λ x. and_then (optional (option_map (statement_in frames) b)) (λ y. Ok (If place t x y))))
unfolding statement_in statement_by_parts
statement-If frames place test a None = ap (statement_in frames) (sym (rolls-If place test a None)) ∙ fold-roll-Stmt (Or_fault Stmt) (statement_by_parts frames) (Stmt-F.If place test a None)
statement-If frames place test a (Some b) = ap (statement_in frames) (sym (rolls-If place test a (Some b))) ∙ fold-roll-Stmt (Or_fault Stmt) (statement_by_parts frames) (Stmt-F.If place test a (Some b))

twice : {A B C : Type 0} (f : B → C) (g : A → B) (h : A → C) → ((a : A) → f (g a) ≡ h a) → (xs : List A) → map f (map g xs) ≡ map h xs
twice f g h same [] = refl
twice {A} {B} {C} f g h same (x ∷ xs) = ap (λ (y : C). y ∷ map f (map g xs)) (same x) ∙ ap (λ (ys : List C). h x ∷ ys) (twice f g h same xs)

pub statement-Case : (frames : Frames) (place : Place) (matching : Matching) (selector : Expr) (arms : List (Arm Stmt)) → statement_in frames (Case place matching selector arms) ≡ and_then (put_in frames selector) (λ s. and_then (gathered (map (arm_with frames) arms)) (λ xs. Ok (Case place matching s xs)))
unfolding statement_in statement_by_parts
statement-Case frames place matching selector arms =
    ap (statement_in frames) (sym (rolls-Case place matching selector arms)) ∙ fold-roll-Stmt (Or_fault Stmt) (statement_by_parts frames) (Stmt-F.Case place matching selector arms)
    ∙ ap (λ rs. and_then (put_in frames selector) (λ s. and_then (gathered rs) (λ xs. Ok (Case place matching s xs)))) (twice (arm_in frames) _ (arm_with frames) (λ a. refl) arms)

pub statement-For : (frames : Frames) (place : Place) (header : Loop) (body : Stmt) → statement_in frames (For place header body) ≡ and_then (loop_in frames header) (λ h. and_then (statement_in frames body) (λ b. Ok (For place h b)))
unfolding statement_in statement_by_parts
statement-For frames place header body = ap (statement_in frames) (sym (rolls-For place header body)) ∙ fold-roll-Stmt (Or_fault Stmt) (statement_by_parts frames) (Stmt-F.For place header body)

-- ---- what is answered for the parts is answered for the whole

-- after a part that has a value
pub answers-next : {A : Type 0} (r : Or_fault Stmt) (given t : Or_fault A) (x : A) (f : A → Or_fault Stmt) → given ≡ Ok x → Answers (λ z. z) given t → Answers (λ z. z) r (f x) → Answers (λ z. z) r (and_then t f)
unfolding and_then
answers-next {A} r given t x f is told answer =
    let same : t ≡ Ok x = subst (λ (q : Or_fault A). Answers (λ z. z) q t) is told in
    subst (λ (q : Or_fault A). Answers (λ z. z) r (and_then q f)) (sym same) answer

pub answers-If : (frames : Frames) (e : Stmt) (test : Expr) (x a : Stmt) (o : Option Stmt) (place : Place) (r : Or_fault Stmt) → e ≡ If place test x o → a ≡ x
    → Answers (λ z. z) r (and_then (put_in frames test) (λ t. and_then (statement_in frames a) (λ p. and_then (optional (option_map (statement_in frames) o)) (λ q. Ok (If place t p q))))) → Answers (λ z. z) r (statement_in frames e)
answers-If frames e test x a o place r is left answer =
    subst (λ (w : Or_fault Stmt). Answers (λ z. z) r w) (sym (statement-If frames place test a o) ∙ ap (statement_in frames) (ap (λ (p : Stmt). If place test p o) left ∙ sym is)) answer

pub answers-Case : (frames : Frames) (e : Stmt) (matching : Matching) (selector : Expr) (arms items : List (Arm Stmt)) (place : Place) (r : Or_fault Stmt) → e ≡ Case place matching selector arms → items ≡ arms
    → Answers (λ z. z) r (and_then (put_in frames selector) (λ s. and_then (gathered (map (arm_with frames) items)) (λ xs. Ok (Case place matching s xs)))) → Answers (λ z. z) r (statement_in frames e)
answers-Case frames e matching selector arms items place r is same answer =
    subst (λ (w : Or_fault Stmt). Answers (λ z. z) r w) (sym (statement-Case frames place matching selector items) ∙ ap (statement_in frames) (ap (λ (p : List (Arm Stmt)). Case place matching selector p) same ∙ sym is)) answer

pub answers-For : (frames : Frames) (e : Stmt) (header : Loop) (x a : Stmt) (place : Place) (r : Or_fault Stmt) → e ≡ For place header x → a ≡ x
    → Answers (λ z. z) r (and_then (loop_in frames header) (λ h. and_then (statement_in frames a) (λ p. Ok (For place h p)))) → Answers (λ z. z) r (statement_in frames e)
answers-For frames e header x a place r is left answer =
    subst (λ (w : Or_fault Stmt). Answers (λ z. z) r w) (sym (statement-For frames place header a) ∙ ap (statement_in frames) (ap (λ (p : Stmt). For place header p) left ∙ sym is)) answer

pub answers-arm : (frames : Frames) (arm : Arm Stmt) (labels : List Expr) (body : Stmt) (r : Or_fault (Arm Stmt)) → labels ≡ arm.labels → body ≡ arm.body
    → Answers (λ z. z) r (and_then (gathered (map (put_in frames) labels)) (λ x. and_then (statement_in frames body) (λ y. Ok (record { place = arm.place; labels = x; body = y })))) → Answers (λ z. z) r (arm_with frames arm)
unfolding arm_in
answers-arm frames arm labels body r same own answer =
    let whole : List Expr → Stmt → Or_fault (Arm Stmt) = λ ls s. and_then (gathered (map (put_in frames) ls)) (λ x. and_then (statement_in frames s) (λ y. Ok (record { place = arm.place; labels = x; body = y }))) in
    subst (λ (w : Or_fault (Arm Stmt)). Answers (λ z. z) r w) (ap (λ (ls : List Expr). whole ls body) same ∙ ap (whole arm.labels) own) answer

-- each form of statement, for tactics
pub ruleset forms = (statement-Empty, statement-Block, statement-Assign, statement-If, statement-Case, statement-For)
