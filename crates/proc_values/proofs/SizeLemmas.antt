-- The labels of case items together, step by step, and a shape that covers others.
use Rattle.std.proofs.Common.{◌≡◌, ℕ, suc, ◌+◌, ◌<◌, ◌≤◌, Bool, true, false, ◌&&◌, max, List, [], ◌∷◌, ◌++◌, length, map, drop, get_or, refl, sym, ap, ◌∙◌, add-one, arith, zero, subst}
use Rattle.std.proofs.Math.Seq.{drop-cons}
use Rattle.std.proofs.lemmas.List.{drop_all}
use Rattle.std.specs.List.{flat_map}
use Rattle.vlog_tree.specs.declared.expr.Expr.{Expr}
use Rattle.vlog_tree.specs.declared.stmt.Arm.{Arm}
use Rattle.vlog_const.specs.declared.shape.Shape.{Shape}
use Rattle.vlog_const.specs.Widths.{common}
use Rattle.design_form.specs.declared.parts.Parts.{Parts}
use Rattle.design_sizes.specs.Sizes.{shape_of, common_of, case_shape}
use Rattle.proc_cases.specs.Full.{labels_of}
use Rattle.proc_values.specs.Covers.{Covers, CoversAll}

-- ---- labels

pub common-append : (d : Parts) (xs ys : List Expr) (c : Shape) → common_of d c (xs ++ ys) ≡ common_of d (common_of d c xs) ys
unfolding common_of
common-append d [] ys c = refl
common-append d (x ∷ xs) ys c = common-append d xs ys (common c (shape_of d x))

pub wider : {S : Type 0} (d : Parts) (c k r : Shape) (xs : List (Arm S)) (i : ℕ) (x : Arm S) (labels : List Expr)
    → i < length xs → x ≡ get_or xs i x → labels ≡ x.labels → k ≡ common_of d c labels → common_of d c (labels_of (drop i xs)) ≡ r → common_of d k (labels_of (drop (i + 1) xs)) ≡ r
wider {S} d c k r xs i x labels lt is at more before =
    let step : labels_of (drop i xs) ≡ x.labels ++ labels_of (drop (i + 1) xs) =
    rw add-one (ap labels_of (drop-cons xs i x lt) ∙ ap (λ (y : Arm S). y.labels ++ labels_of (drop (suc i) xs)) (sym is)) in
    ap (λ (s : Shape). common_of d s (labels_of (drop (i + 1) xs))) (more ∙ ap (common_of d c) at)
    ∙ sym (common-append d x.labels (labels_of (drop (i + 1) xs)) c) ∙ ap (common_of d c) (sym step) ∙ before

pub wide : {S : Type 0} (d : Parts) (c r : Shape) (xs : List (Arm S)) (i : ℕ) → length xs ≤ i → common_of d c (labels_of (drop i xs)) ≡ r → c ≡ r
unfolding common_of
wide {S} d c r xs i past before = ap (λ (l : List (Arm S)). common_of d c (labels_of l)) (sym (drop_all i xs past)) ∙ before

pub one_more : (d : Parts) (c k a r : Shape) (xs : List Expr) (i : ℕ) (x : Expr)
    → i < length xs → x ≡ get_or xs i x → a ≡ shape_of d x → k ≡ common c a → common_of d c (drop i xs) ≡ r → common_of d k (drop (i + 1) xs) ≡ r
unfolding common_of
one_more d c k a r xs i x lt is own more before =
    let step : common_of d c (drop i xs) ≡ common_of d (common c (shape_of d x)) (drop (i + 1) xs) =
    rw add-one (ap (common_of d c) (drop-cons xs i x lt) ∙ ap (λ (y : Expr). common_of d (common c (shape_of d y)) (drop (suc i) xs)) (sym is)) in
    ap (λ (s : Shape). common_of d s (drop (i + 1) xs)) (more ∙ ap (common c) own) ∙ sym step ∙ before

pub all_done : (d : Parts) (c r : Shape) (xs : List Expr) (i : ℕ) → length xs ≤ i → common_of d c (drop i xs) ≡ r → c ≡ r
unfolding common_of
all_done d c r xs i past before = ap (common_of d c) (sym (drop_all i xs past)) ∙ before

-- ---- shapes that cover others

covers_through : (a b c : Shape) → Covers b c → Covers a b → Covers a c
covers_through a b c bc ab = record { width = omega (arith, bc.width, ab.width); signed = λ s. bc.signed (ab.signed s) }

both_true : (a b : Bool) → (a && b) ≡ true → (a ≡ true) × (b ≡ true)
both_true true true h = (refl, refl)
both_true true false h = absurd (cc)
both_true false b h = absurd (cc)

common_left : (a b : Shape) → Covers (common a b) a
common_left a b = record { width = omega arith; signed = λ s. (both_true a.signed b.signed s).0 }

common_right : (a b : Shape) → Covers (common a b) b
common_right a b = record { width = omega arith; signed = λ s. (both_true a.signed b.signed s).1 }

pub covers_start : (d : Parts) (c : Shape) (es : List Expr) → Covers (common_of d c es) c
unfolding common_of
covers_start d c [] = record { width = omega arith; signed = λ s. s }
covers_start d c (e ∷ es) = covers_through _ _ _ (common_left c (shape_of d e)) (covers_start d (common c (shape_of d e)) es)

covers_list : (d : Parts) (c : Shape) (es : List Expr) → CoversAll d (common_of d c es) es
unfolding common_of CoversAll
covers_list d c [] = tt
covers_list d c (e ∷ es) = (covers_through _ _ _ (common_right c (shape_of d e)) (covers_start d (common c (shape_of d e)) es), covers_list d (common c (shape_of d e)) es)

covers_front : (d : Parts) (c : Shape) (xs ys : List Expr) → CoversAll d c (xs ++ ys) → CoversAll d c xs × CoversAll d c ys
unfolding CoversAll
covers_front d c [] ys h = (tt, h)
covers_front d c (x ∷ xs) ys h = let rest = covers_front d c xs ys h.1 in ((h.0, rest.0), rest.1)

covers_item : {S : Type 0} (d : Parts) (c : Shape) (arms : List (Arm S)) (i : ℕ) (arm : Arm S) → i < length arms → CoversAll d c (labels_of arms) → CoversAll d c (get_or arms i arm).labels
covers_item d c [] i arm lt h = absurd (omega arith)
covers_item d c (a ∷ arms) zero arm lt h = (covers_front d c a.labels (labels_of arms) h).0
covers_item d c (a ∷ arms) (suc i) arm lt h = covers_item d c arms i arm (omega arith) (covers_front d c a.labels (labels_of arms) h).1

-- the shape of a selector and all labels together covers the labels of an item
pub covers_arm : {S : Type 0} (d : Parts) (selector : Expr) (arms : List (Arm S)) (i : ℕ) (arm : Arm S) → i < length arms → arm ≡ get_or arms i arm → CoversAll d (case_shape d selector (labels_of arms)) arm.labels
covers_arm {S} d selector arms i arm lt is =
    subst (λ (a : Arm S). CoversAll d (case_shape d selector (labels_of arms)) a.labels) (sym is) (covers_item d _ arms i arm lt (covers_list d (shape_of d selector) (labels_of arms)))

pub covers_at : (d : Parts) (c : Shape) (es : List Expr) (i : ℕ) (m : Expr) → CoversAll d c es → i < length es → m ≡ get_or es i m → Covers c (shape_of d m)
unfolding CoversAll
covers_at d c [] i m h lt is = absurd (omega arith)
covers_at d c (e ∷ es) zero m h lt is = subst (λ (x : Expr). Covers c (shape_of d x)) (sym is) h.0
covers_at d c (e ∷ es) (suc i) m h lt is = covers_at d c es i m h.1 (omega arith) is

pub covers_items : {S : Type 0} (d : Parts) (c : Shape) (arms : List (Arm S)) (i : ℕ) (arm : Arm S) (labels : List Expr) → CoversAll d c (labels_of arms) → i < length arms → arm ≡ get_or arms i arm → labels ≡ arm.labels → CoversAll d c labels
covers_items {S} d c arms i arm labels h lt is same =
    subst (CoversAll d c) (sym same) (subst (λ (a : Arm S). CoversAll d c a.labels) (sym is) (covers_item d c arms i arm lt h))

pub covers_all : (d : Parts) (c : Shape) (selector : Expr) (es : List Expr) → c ≡ case_shape d selector es → CoversAll d c es
covers_all d c selector es is = subst (λ (s : Shape). CoversAll d s es) (sym is) (covers_list d (shape_of d selector) es)
