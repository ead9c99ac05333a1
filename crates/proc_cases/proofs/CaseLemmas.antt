-- The labels of case items together, and the positions of parts, step by step.
use Rattle.std.proofs.Common.{◌≡◌, ℕ, suc, ◌+◌, ◌<◌, ◌≤◌, bit_or, List, [], ◌∷◌, ◌++◌, length, map, drop, get_or, refl, sym, ap, ◌∙◌, add-one}
use Rattle.std.proofs.Math.Seq.{drop-cons}
use Rattle.std.proofs.lemmas.List.{drop_all}
use Rattle.vlog_tree.specs.declared.expr.Expr.{Expr}
use Rattle.vlog_tree.specs.declared.stmt.Arm.{Arm}
use Rattle.vlog_const.specs.declared.shape.Shape.{Shape}
use Rattle.vlog_const.specs.Widths.{common}
use Rattle.design_form.specs.declared.parts.Parts.{Parts}
use Rattle.design_sizes.specs.Sizes.{shape_of, common_of}
use Rattle.proc_cases.specs.declared.masks.Row.{Row}
use Rattle.proc_cases.specs.Full.{labels_of}
use Rattle.proc_cases.specs.Masks.{behind, copies, mask_of, moved, row_of, width_of}

-- ---- labels

pub common-append : (d : Parts) (xs ys : List Expr) (c : Shape) → common_of d c (xs ++ ys) ≡ common_of d (common_of d c xs) ys
unfolding common_of
common-append d [] ys c = refl
common-append d (x ∷ xs) ys c = common-append d xs ys (common c (shape_of d x))

pub wider : {S : Type 0} (d : Parts) (c k r : Shape) (xs : List (Arm S)) (i : ℕ) (x : Arm S) (labels : List Expr)
    → i < length xs → x ≡ get_or xs i x → labels ≡ x.labels → k ≡ common_of d c labels → common_of d c (labels_of (drop i xs)) ≡ r → common_of d k (labels_of (drop (i + 1) xs)) ≡ r
wider {S} d c k r xs i x labels lt is at more before =
    let step : labels_of (drop i xs) ≡ x.labels ++ labels_of (drop (i + 1) xs) =
    rw add-one (ap labels_of (drop-cons xs i x lt) ∙ ap (λ (y : Arm S). y.labels ++ labels_of (drop (suc i) xs)) (sym is)) in
    ap (λ (s : Shape). common_of d s (labels_of (drop (i + 1) xs))) (more ∙ ap (common_of d c) at)
    ∙ sym (common-append d x.labels (labels_of (drop (i + 1) xs)) c) ∙ ap (common_of d c) (sym step) ∙ before

pub wide : {S : Type 0} (d : Parts) (c r : Shape) (xs : List (Arm S)) (i : ℕ) → length xs ≤ i → common_of d c (labels_of (drop i xs)) ≡ r → c ≡ r
unfolding common_of
wide {S} d c r xs i past before = ap (λ (l : List (Arm S)). common_of d c (labels_of l)) (sym (drop_all i xs past)) ∙ before

pub one_more : (d : Parts) (c k a r : Shape) (xs : List Expr) (i : ℕ) (x : Expr)
    → i < length xs → x ≡ get_or xs i x → a ≡ shape_of d x → k ≡ common c a → common_of d c (drop i xs) ≡ r → common_of d k (drop (i + 1) xs) ≡ r
unfolding common_of
one_more d c k a r xs i x lt is own more before =
    let step : common_of d c (drop i xs) ≡ common_of d (common c (shape_of d x)) (drop (i + 1) xs) =
    rw add-one (ap (common_of d c) (drop-cons xs i x lt) ∙ ap (λ (y : Expr). common_of d (common c (shape_of d y)) (drop (suc i) xs)) (sym is)) in
    ap (λ (s : Shape). common_of d s (drop (i + 1) xs)) (more ∙ ap (common c) own) ∙ sym step ∙ before

pub all_done : (d : Parts) (c r : Shape) (xs : List Expr) (i : ℕ) → length xs ≤ i → common_of d c (drop i xs) ≡ r → c ≡ r
unfolding common_of
all_done d c r xs i past before = ap (common_of d c) (sym (drop_all i xs past)) ∙ before

-- ---- positions

-- a part beside what it has
abbrev pub beside : Expr → Expr × ℕ
beside e = (e, mask_of e)

pub row_more : (r q k : Row) (xs : List Expr) (i : ℕ) (x : Expr) (w m : ℕ)
    → i < length xs → x ≡ get_or xs i x → w ≡ width_of x → m ≡ mask_of x → q ≡ behind r w m → row_of r (map beside (drop i xs)) ≡ k → row_of q (map beside (drop (i + 1) xs)) ≡ k
unfolding row_of
row_more r q k xs i x w m lt is wide own more before =
    let step : row_of r (map beside (drop i xs)) ≡ row_of (behind r (width_of x) (mask_of x)) (map beside (drop (i + 1) xs)) =
    rw add-one (ap (λ (es : List Expr). row_of r (map beside es)) (drop-cons xs i x lt) ∙ ap (λ (y : Expr). row_of (behind r (width_of y) (mask_of y)) (map beside (drop (suc i) xs))) (sym is)) in
    ap (λ (s : Row). row_of s (map beside (drop (i + 1) xs))) (more ∙ ap (λ (n : ℕ). behind r n m) wide ∙ ap (behind r (width_of x)) own) ∙ sym step ∙ before

pub row_end : (r k : Row) (xs : List Expr) (i : ℕ) → length xs ≤ i → row_of r (map beside (drop i xs)) ≡ k → r ≡ k
unfolding row_of
row_end r k xs i past before = ap (λ (es : List Expr). row_of r (map beside es)) (sym (drop_all i xs past)) ∙ before

pub one_copy : (n : ℕ) (r : Row) → copies (n + 1) r ≡ bit_or (moved r.width (copies n r)) r.mask
unfolding copies
one_copy n r = rw add-one refl
