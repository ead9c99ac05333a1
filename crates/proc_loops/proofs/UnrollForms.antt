-- What each form of statement becomes.
use Rattle.std.proofs.Common.{◌≡◌, ◌⊎◌, inl, inr, ℕ, ◌+◌, ◌<◌, false, List, [], ◌∷◌, ◌++◌, length, get_or, drop, if◌then◌else◌, map, Option, Some, None, Result, Ok, Err, refl, sym, ap, subst, ◌∙◌}
use mathlib.Core.Path.{fun_ext}
use Rattle.std.proofs.lemmas.List.{drop_more}
use Rattle.rdc_outside.specs.declared.source.Place.{Place}
use Rattle.vlog_tree.specs.declared.expr.Expr.{Expr}
use Rattle.vlog_tree.specs.declared.ident.Ident.{Ident}
use Rattle.vlog_tree.specs.declared.stmt.Arm.{Arm}
use Rattle.vlog_tree.specs.declared.stmt.Assigns.{Assigns}
use Rattle.vlog_tree.specs.declared.stmt.Loop.{Loop}
use Rattle.vlog_tree.specs.declared.stmt.Matching.{Matching}
use Rattle.vlog_tree.specs.declared.stmt.Stmt.{Stmt, para-roll-Stmt}
use Rattle.vlog_tree.specs.declared.stmt.Stmt.TheOpen.{Stmt-F}
use Rattle.vlog_tree.specs.declared.stmt.Stmt.TheVariants.{Empty, Block, Assign, If, Case, For, rolls-Empty, rolls-Block, rolls-Assign, rolls-If, rolls-Case, rolls-For}
use Rattle.vlog_const.specs.Names.{Values}
use Rattle.proc_loops.specs.declared.fault.LoopFault.{LoopFault}
use Rattle.proc_loops.specs.declared.progress.Progress.{Progress}
use Rattle.proc_loops.specs.Faults.{Or_fault, and_then, Answers}
use Rattle.proc_loops.specs.Turns.{Run, unroll_loop}
use Rattle.proc_loops.specs.Unrolled.{put_in, all_put_in, each, arm_in, sides, other_side, assignment, unroll, unroll_by_parts}

-- ---- lists of statements that are given by others

pub each-map : {S T X : Type 0} (g : S → T) (f : T → Run X) (done : List X) (ss : List S) (values : Values) (p : Progress) → each f done (map g ss) values p ≡ each (λ s. f (g s)) done ss values p
unfolding each
each-map g f done [] values p = refl
each-map {S} {T} {X} g f done (s ∷ ss) values p =
    ap (λ (k : X × Progress → Or_fault (List X × Progress)). if p.is_cut then Ok (done, p) else and_then (f (g s) values p) k) (fun_ext (λ r. each-map g f (done ++ r.0 ∷ []) ss values r.1))

abbrev pub with_body : {S T : Type 0} → (S → T) → Arm S → Arm T
with_body g a = record { place = a.place; labels = a.labels; body = g a.body }

-- ---- forms

abbrev beside : Stmt → Stmt × Run Stmt
beside s = (s, unroll s)

pub unroll-Empty : (place : Place) (values : Values) (p : Progress) → unroll (Empty place) values p ≡ Ok (Empty place, p)
unfolding unroll unroll_by_parts
unroll-Empty place values p = ap (λ s. unroll s values p) (sym (rolls-Empty place)) ∙ ap (λ f. f values p) (para-roll-Stmt (Run Stmt) unroll_by_parts (Stmt-F.Empty place))

pub unroll-Block : (place : Place) (label : Option Ident) (ss : List Stmt) (values : Values) (p : Progress) → unroll (Block place label ss) values p ≡ and_then (each unroll [] ss values p) (λ r. Ok (Block place label r.0, r.1))
unfolding unroll unroll_by_parts
unroll-Block place label ss values p =
    ap (λ s. unroll s values p) (sym (rolls-Block place label ss)) ∙ ap (λ f. f values p) (para-roll-Stmt (Run Stmt) unroll_by_parts (Stmt-F.Block place label ss))
    ∙ ap (λ r. and_then r (λ r. Ok (Block place label r.0, r.1))) (each-map _ (λ s. s.1) [] ss values p)

pub unroll-Assign : (place : Place) (target : Expr) (by : Assigns) (value : Expr) (values : Values) (p : Progress) → unroll (Assign place target by value) values p ≡ assignment place target by value values p
unfolding unroll unroll_by_parts
unroll-Assign place target by value values p =
    ap (λ s. unroll s values p) (sym (rolls-Assign place target by value)) ∙ ap (λ f. f values p) (para-roll-Stmt (Run Stmt) unroll_by_parts (Stmt-F.Assign place target by value))

pub unroll-If : (place : Place) (test : Expr) (a : Stmt) (b : Option Stmt) (values : Values) (p : Progress)
    → unroll (If place test a b) values p ≡ and_then (put_in values test) (λ t. and_then (sides unroll b values (unroll a values p)) (λ r. Ok (If place t r.first r.other, r.then)))
unfolding unroll unroll_by_parts other_side
unroll-If place test a None values p =
    ap (λ s. unroll s values p) (sym (rolls-If place test a None)) ∙ ap (λ f. f values p) (para-roll-Stmt (Run Stmt) unroll_by_parts (Stmt-F.If place test a None))
unroll-If place test a (Some b) values p =
    ap (λ s. unroll s values p) (sym (rolls-If place test a (Some b))) ∙ ap (λ f. f values p) (para-roll-Stmt (Run Stmt) unroll_by_parts (Stmt-F.If place test a (Some b)))

pub unroll-Case : (place : Place) (how : Matching) (selector : Expr) (arms : List (Arm Stmt)) (values : Values) (p : Progress)
    → unroll (Case place how selector arms) values p ≡ and_then (put_in values selector) (λ s. and_then (each (arm_in unroll) [] arms values p) (λ r. Ok (Case place how s r.0, r.1)))
unfolding unroll unroll_by_parts arm_in
unroll-Case place how selector arms values p =
    ap (λ s. unroll s values p) (sym (rolls-Case place how selector arms)) ∙ ap (λ f. f values p) (para-roll-Stmt (Run Stmt) unroll_by_parts (Stmt-F.Case place how selector arms))
    ∙ ap (λ r. and_then (put_in values selector) (λ s. and_then r (λ r. Ok (Case place how s r.0, r.1)))) (each-map (with_body beside) (arm_in (λ s. s.1)) [] arms values p)

pub unroll-For : (place : Place) (h : Loop) (body : Stmt) (values : Values) (p : Progress) → unroll (For place h body) values p ≡ unroll_loop place h body (unroll body) values p
unfolding unroll unroll_by_parts
unroll-For place h body values p =
    ap (λ s. unroll s values p) (sym (rolls-For place h body)) ∙ ap (λ f. f values p) (para-roll-Stmt (Run Stmt) unroll_by_parts (Stmt-F.For place h body))

-- each form of statement, for tactics
pub ruleset forms = (unroll-Empty, unroll-Block, unroll-Assign, unroll-If, unroll-Case, unroll-For)

-- ---- steps of lists

-- what is left of a list that is not at its end
left_of : {S : Type 0} (xs : List S) (i : ℕ) (x : S) → i < length xs → x ≡ get_or xs i x → drop i xs ≡ x ∷ drop (i + 1) xs
left_of xs i x below is = drop_more xs i x below ∙ ap (λ y. y ∷ drop (i + 1) xs) (sym is)

pub each-fails : {S T : Type 0} (f : S → Run T) (done : List T) (xs : List S) (i : ℕ) (x : S) (values : Values) (p : Progress) (fault : LoopFault)
    → i < length xs → x ≡ get_or xs i x → p.is_cut ≡ false → f x values p ≡ Err fault → each f done (drop i xs) values p ≡ Err fault
unfolding each and_then
each-fails {S} {T} f done xs i x values p fault below is more gives =
    ap (λ ys. each f done ys values p) (left_of xs i x below is) ∙ ap (λ b. if b then Ok (done, p) else and_then (f x values p) (λ r. each f (done ++ r.0 ∷ []) (drop (i + 1) xs) values r.1)) more
    ∙ ap (λ (r : Or_fault (T × Progress)). and_then r (λ r. each f (done ++ r.0 ∷ []) (drop (i + 1) xs) values r.1)) gives

pub each-goes : {S T : Type 0} (f : S → Run T) (done : List T) (xs : List S) (i : ℕ) (x : S) (values : Values) (p : Progress) (r : T × Progress)
    → i < length xs → x ≡ get_or xs i x → p.is_cut ≡ false → f x values p ≡ Ok r → each f done (drop i xs) values p ≡ each f (done ++ r.0 ∷ []) (drop (i + 1) xs) values r.1
unfolding each and_then
each-goes {S} {T} f done xs i x values p r below is more gives =
    ap (λ ys. each f done ys values p) (left_of xs i x below is) ∙ ap (λ b. if b then Ok (done, p) else and_then (f x values p) (λ r. each f (done ++ r.0 ∷ []) (drop (i + 1) xs) values r.1)) more
    ∙ ap (λ (r : Or_fault (T × Progress)). and_then r (λ r. each f (done ++ r.0 ∷ []) (drop (i + 1) xs) values r.1)) gives

-- ---- answers

pub same_answer : {A : Type 0} (result : Result A LoopFault) (x y : Or_fault A) → x ≡ y → Answers result x → Answers result y
same_answer result x y e h = subst (λ z. Answers result z) e h

pub if-form : (s : Stmt) (place : Place) (test : Expr) (a x : Stmt) (b : Option Stmt) (values : Values) (p : Progress) → s ≡ If place test a b → x ≡ a
    → and_then (put_in values test) (λ t. and_then (sides unroll b values (unroll x values p)) (λ r. Ok (If place t r.first r.other, r.then))) ≡ unroll s values p
if-form s place test a x b values p is same =
    ap (λ z. and_then (put_in values test) (λ t. and_then (sides unroll b values (unroll z values p)) (λ r. Ok (If place t r.first r.other, r.then)))) same
    ∙ sym (unroll-If place test a b values p) ∙ ap (λ z. unroll z values p) (sym is)

pub case-form : (s : Stmt) (place : Place) (how : Matching) (selector : Expr) (arms xs : List (Arm Stmt)) (values : Values) (p : Progress) → s ≡ Case place how selector arms → xs ≡ arms
    → and_then (put_in values selector) (λ s. and_then (each (arm_in unroll) [] xs values p) (λ r. Ok (Case place how s r.0, r.1))) ≡ unroll s values p
case-form s place how selector arms xs values p is same =
    ap (λ z. and_then (put_in values selector) (λ s. and_then (each (arm_in unroll) [] z values p) (λ r. Ok (Case place how s r.0, r.1)))) same
    ∙ sym (unroll-Case place how selector arms values p) ∙ ap (λ z. unroll z values p) (sym is)

-- want of memory stays that, and a fault becomes another equation
pub unless_memory : {M P Q : Type 0} → (P → Q) → M ⊎ P → M ⊎ Q
unless_memory f (inl m) = inl m
unless_memory f (inr p) = inr (f p)

pub arm-form : (a : Arm Stmt) (labels : List Expr) (body : Stmt) (values : Values) (p : Progress) → labels ≡ a.labels → body ≡ a.body
    → arm_in unroll a values p ≡ and_then (all_put_in values [] labels) (λ s. and_then (unroll body values p) (λ r. Ok (record { place = a.place; labels = s; body = r.0 }, r.1)))
unfolding arm_in
arm-form a labels body values p same alike =
    ap (λ (ls : List Expr). and_then (all_put_in values [] ls) (λ s. and_then (unroll a.body values p) (λ r. Ok (record { place = a.place; labels = s; body = r.0 }, r.1)))) (sym same)
    ∙ ap (λ (b : Stmt). and_then (all_put_in values [] labels) (λ s. and_then (unroll b values p) (λ r. Ok (record { place = a.place; labels = s; body = r.0 }, r.1)))) (sym alike)
