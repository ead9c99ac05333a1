-- Targets that select nothing, statements by their forms, and the labels of case items together.
use Rattle.std.proofs.Common.{◌≡◌, ℕ, suc, ◌+◌, ◌<◌, ◌≤◌, false, List, [], ◌∷◌, ◌++◌, length, drop, get_or, Option, Some, None, refl, sym, ap, ◌∙◌, add-one}
use Rattle.std.proofs.Math.Seq.{drop-cons}
use Rattle.std.proofs.lemmas.List.{drop_all}
use Rattle.std.specs.List.{flat_map}
use Rattle.rdc_outside.specs.declared.source.Place.{Place}
use Rattle.vlog_tree.specs.declared.expr.Expr.{Expr}
use Rattle.vlog_tree.specs.declared.stmt.Arm.{Arm}
use Rattle.vlog_tree.specs.declared.stmt.Matching.{Matching}
use Rattle.vlog_tree.specs.declared.stmt.Stmt.{Stmt}
use Rattle.vlog_tree.specs.declared.stmt.Stmt.TheVariants.{Empty, If, Case}
use Rattle.vlog_const.specs.declared.shape.Shape.{Shape}
use Rattle.vlog_const.specs.Widths.{common}
use Rattle.design_form.specs.declared.parts.Parts.{Parts}
use Rattle.design_sizes.specs.Sizes.{Sized, shape_of, sized, sized_alone, sized_target, sized_statement, case_shape, common_of}
use Rattle.design_sizes.specs.Lists.{labels_of, arm_parts}
use Rattle.design_sizes.proofs.Rows.{none_more, two, three}
use Rattle.design_sizes.proofs.StatementForms.{parts-Empty, parts-If-None, parts-If-Some, parts-Case}

pub target-nothing : (d : Parts) (e f : Expr) (o : List Sized) → e ≡ f → sized_target d f ≡ [] → o ≡ o ++ sized_target d e
target-nothing d e f o is form = none_more o (sized_target d e) (sym form ∙ ap (sized_target d) (sym is))

-- ---- statements

of_form : (d : Parts) (s f : Stmt) (r : List Sized) → s ≡ f → sized_statement d f ≡ r → r ≡ sized_statement d s
of_form d s f r is form = sym form ∙ ap (sized_statement d) (sym is)

pub state-Empty : (d : Parts) (s : Stmt) (place : Place) (o : List Sized) → s ≡ Empty place → o ≡ o ++ sized_statement d s
state-Empty d s place o is = none_more o (sized_statement d s) (of_form d s (Empty place) [] is (parts-Empty d place))

pub state-If-None : (d : Parts) (s : Stmt) (place : Place) (test t : Expr) (a y : Stmt) (f : Option Stmt) (o p q : List Sized)
    → s ≡ If place test a f → f ≡ None → t ≡ test → y ≡ a → p ≡ o ++ sized_alone d t → q ≡ p ++ sized_statement d y → q ≡ o ++ sized_statement d s
state-If-None d s place test t a y f o p q is none at to first second =
    second ∙ two o p (sized_alone d t) (sized_statement d y) (sized_statement d s) first
    (ap (λ (e : Expr). sized_alone d e ++ sized_statement d y) at ∙ ap (λ (e : Stmt). sized_alone d test ++ sized_statement d e) to ∙ of_form d s (If place test a None) _ (is ∙ ap (If place test a) none) (parts-If-None d place test a))

pub state-If-Some : (d : Parts) (s : Stmt) (place : Place) (test t : Expr) (a b y z : Stmt) (f : Option Stmt) (o p q : List Sized)
    → s ≡ If place test a f → f ≡ Some b → t ≡ test → y ≡ a → z ≡ b → p ≡ o ++ sized_alone d t → q ≡ p ++ sized_statement d y → q ++ sized_statement d z ≡ o ++ sized_statement d s
state-If-Some d s place test t a b y z f o p q is some at to more first second =
    three o p q (sized_alone d t) (sized_statement d y) (sized_statement d z) (sized_statement d s) first second
    (ap (λ (e : Expr). sized_alone d e ++ (sized_statement d y ++ sized_statement d z)) at ∙ ap (λ (e : Stmt). sized_alone d test ++ (sized_statement d e ++ sized_statement d z)) to
    ∙ ap (λ (e : Stmt). sized_alone d test ++ (sized_statement d a ++ sized_statement d e)) more ∙ of_form d s (If place test a (Some b)) _ (is ∙ ap (If place test a) some) (parts-If-Some d place test a b))

pub state-Case : (d : Parts) (s : Stmt) (place : Place) (how : Matching) (selector e : Expr) (arms xs : List (Arm Stmt)) (c : Shape) (o p : List Sized)
    → s ≡ Case place how selector arms → e ≡ selector → xs ≡ arms → c ≡ case_shape d e (labels_of xs) → p ≡ o ++ sized d c false e → p ++ flat_map (arm_parts d c) xs ≡ o ++ sized_statement d s
state-Case d s place how selector e arms xs c o p is at to shape first =
    two o p (sized d c false e) (flat_map (arm_parts d c) xs) (sized_statement d s) first
    (ap (λ (k : Shape). sized d k false e ++ flat_map (arm_parts d k) xs) shape
    ∙ ap (λ (x : Expr). sized d (case_shape d x (labels_of xs)) false x ++ flat_map (arm_parts d (case_shape d x (labels_of xs))) xs) at
    ∙ ap (λ (l : List (Arm Stmt)). sized d (case_shape d selector (labels_of l)) false selector ++ flat_map (arm_parts d (case_shape d selector (labels_of l))) l) to
    ∙ of_form d s (Case place how selector arms) _ is (parts-Case d place how selector arms))

-- ---- labels

pub common-append : (d : Parts) (xs ys : List Expr) (c : Shape) → common_of d c (xs ++ ys) ≡ common_of d (common_of d c xs) ys
unfolding common_of
common-append d [] ys c = refl
common-append d (x ∷ xs) ys c = common-append d xs ys (common c (shape_of d x))

pub wider : (d : Parts) (c k r : Shape) (xs : List (Arm Stmt)) (i : ℕ) (x : Arm Stmt) (labels : List Expr)
    → i < length xs → x ≡ get_or xs i x → labels ≡ x.labels → k ≡ common_of d c labels → common_of d c (labels_of (drop i xs)) ≡ r → common_of d k (labels_of (drop (i + 1) xs)) ≡ r
wider d c k r xs i x labels lt is at more before =
    let step : labels_of (drop i xs) ≡ x.labels ++ labels_of (drop (i + 1) xs) =
    rw add-one (ap labels_of (drop-cons xs i x lt) ∙ ap (λ (y : Arm Stmt). y.labels ++ labels_of (drop (suc i) xs)) (sym is)) in
    ap (λ (s : Shape). common_of d s (labels_of (drop (i + 1) xs))) (more ∙ ap (common_of d c) at)
    ∙ sym (common-append d x.labels (labels_of (drop (i + 1) xs)) c) ∙ ap (common_of d c) (sym step) ∙ before

pub wide : (d : Parts) (c r : Shape) (xs : List (Arm Stmt)) (i : ℕ) → length xs ≤ i → common_of d c (labels_of (drop i xs)) ≡ r → c ≡ r
unfolding common_of
wide d c r xs i past before = ap (λ (l : List (Arm Stmt)). common_of d c (labels_of l)) (sym (drop_all i xs past)) ∙ before

pub one_more : (d : Parts) (c k a r : Shape) (xs : List Expr) (i : ℕ) (x : Expr)
    → i < length xs → x ≡ get_or xs i x → a ≡ shape_of d x → k ≡ common c a → common_of d c (drop i xs) ≡ r → common_of d k (drop (i + 1) xs) ≡ r
unfolding common_of
one_more d c k a r xs i x lt is own more before =
    let step : common_of d c (drop i xs) ≡ common_of d (common c (shape_of d x)) (drop (i + 1) xs) =
    rw add-one (ap (common_of d c) (drop-cons xs i x lt) ∙ ap (λ (y : Expr). common_of d (common c (shape_of d y)) (drop (suc i) xs)) (sym is)) in
    ap (λ (s : Shape). common_of d s (drop (i + 1) xs)) (more ∙ ap (common c) own) ∙ sym step ∙ before

pub all_done : (d : Parts) (c r : Shape) (xs : List Expr) (i : ℕ) → length xs ≤ i → common_of d c (drop i xs) ≡ r → c ≡ r
unfolding common_of
all_done d c r xs i past before = ap (common_of d c) (sym (drop_all i xs past)) ∙ before
