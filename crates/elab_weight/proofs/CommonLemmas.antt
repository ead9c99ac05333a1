-- What a selector and the labels have in common.
use Rattle.std.proofs.Common.{◌≡◌, ℕ, ◌+◌, ◌<◌, ◌≤◌, List, [], ◌∷◌, ◌++◌, length, drop, get_or, refl, sym, ap, ◌∙◌}
use Rattle.std.specs.List.{flat_map}
use Rattle.std.proofs.lemmas.List.{drop_all}
use Rattle.vlog_tree.specs.declared.expr.Expr.{Expr}
use Rattle.vlog_const.specs.declared.shape.Shape.{Shape}
use Rattle.vlog_const.specs.Widths.{common}
use Rattle.design_form.specs.declared.parts.Parts.{Parts}
use Rattle.design_sizes.specs.Sizes.{common_of, shape_of}
use Rattle.elab_weight.proofs.OnceLemmas.{next}

common-append : (d : Parts) (c : Shape) (xs ys : List Expr) → common_of d c (xs ++ ys) ≡ common_of d (common_of d c xs) ys
unfolding common_of
common-append d c [] ys = refl
common-append d c (x ∷ xs) ys = common-append d (common c (shape_of d x)) xs ys

pub one-next : (d : Parts) (xs : List Expr) (i : ℕ) (x : Expr) (c b whole : Shape) → i < length xs → x ≡ get_or xs i x → b ≡ common c (shape_of d x) → common_of d c (drop i xs) ≡ whole → common_of d b (drop (i + 1) xs) ≡ whole
unfolding common_of
one-next d xs i x c b whole lt is put h =
    ap (λ (s : Shape). common_of d s (drop (i + 1) xs)) put ∙ ap (common_of d c) (sym (next xs i x lt is)) ∙ h

pub one-end : (d : Parts) (xs : List Expr) (i : ℕ) (c whole : Shape) → length xs ≤ i → common_of d c (drop i xs) ≡ whole → c ≡ whole
unfolding common_of
one-end d xs i c whole le h = sym (ap (common_of d c) (drop_all i xs le)) ∙ h

pub all-next : {A : Type 0} (d : Parts) (f : A → List Expr) (xs : List A) (i : ℕ) (x : A) (c b whole : Shape) → i < length xs → x ≡ get_or xs i x → b ≡ common_of d c (f x)
    → common_of d c (flat_map f (drop i xs)) ≡ whole → common_of d b (flat_map f (drop (i + 1) xs)) ≡ whole
all-next {A} d f xs i x c b whole lt is put h =
    ap (λ (s : Shape). common_of d s (flat_map f (drop (i + 1) xs))) put
    ∙ sym (common-append d c (f x) (flat_map f (drop (i + 1) xs)))
    ∙ ap (λ (ys : List A). common_of d c (flat_map f ys)) (sym (next xs i x lt is)) ∙ h

pub all-end : {A : Type 0} (d : Parts) (f : A → List Expr) (xs : List A) (i : ℕ) (c whole : Shape) → length xs ≤ i → common_of d c (flat_map f (drop i xs)) ≡ whole → c ≡ whole
unfolding common_of
all-end {A} d f xs i c whole le h = sym (ap (λ (ys : List A). common_of d c (flat_map f ys)) (drop_all i xs le)) ∙ h
