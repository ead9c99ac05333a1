-- Labels, step by step.
use Rattle.std.proofs.Common.{◌≡◌, ℕ, zero, suc, ◌+◌, ◌-◌, ◌/◌, ◌%◌, ◌<◌, ◌≤◌, ◌==◌, min, Bool, true, false, List, [], ◌∷◌, ◌++◌, length, map, drop, get_or, refl, sym, ap, ◌∙◌, arith, rules, subst}
use Rattle.std.proofs.lemmas.List.{drop_all, drop_more, length-drop, get_or-drop, drop-drop}
use Rattle.vlog_tree.specs.declared.expr.Expr.{Expr}
use Rattle.vlog_tree.specs.declared.stmt.Matching.{Matching}
use Rattle.rdc_tern.specs.declared.value.Tern.{Tern}
use Rattle.rdc_tern.specs.declared.value.Tern.TheVariants.{One, Zero}
use Rattle.rdc_tern.specs.Kleene.{and_of, or_of, not_of, xor_of}
use Rattle.rdc_tern.specs.Words.{any_of, all_of}
use Rattle.rdc_tern.proofs.GateLemmas.{and_assoc, and_one, or_assoc, or_zero}
use Rattle.vlog_const.specs.declared.shape.Shape.{Shape}
use Rattle.design_form.specs.declared.parts.Parts.{Parts}
use Rattle.design_sizes.specs.Sizes.{shape_of}
use Rattle.proc_values.specs.Marks.{same_bit}
use Rattle.proc_values.specs.Labels.{flags, fitted, free_of, joined_free, repeated, same_at, label_hit}

pub flags_more : (w p n : ℕ) → p < w → flags (w - p) n ≡ (n % 2 == 1) ∷ flags (w - (p + 1)) (n / 2)
unfolding flags
flags_more w p n h = let e : w - p ≡ suc (w - (p + 1)) = omega arith in ap (λ (k : ℕ). flags k n) e

pub flags_end : (w p n : ℕ) → w ≤ p → flags (w - p) n ≡ []
unfolding flags
flags_end w p n h = let e : w - p ≡ zero = omega arith in ap (λ (k : ℕ). flags k n) e

pub repeated_more : (n k : ℕ) (w : List Bool) → k < n → repeated (n - k) w ≡ w ++ repeated (n - (k + 1)) w
unfolding repeated
repeated_more n k w h = let e : n - k ≡ suc (n - (k + 1)) = omega arith in ap (λ (m : ℕ). repeated m w) e

pub repeated_end : (n k : ℕ) (w : List Bool) → n ≤ k → repeated (n - k) w ≡ []
unfolding repeated
repeated_end n k w h = let e : n - k ≡ zero = omega arith in ap (λ (m : ℕ). repeated m w) e

abbrev pub beside : Parts → List Expr → List (Expr × List Bool)
beside d es = map (λ e. (e, free_of d e)) es

pub free_more : (d : Parts) (es : List Expr) (at left : ℕ) (m : Expr) (all part more : List Bool) → left ≡ at + 1 → left ≤ length es → m ≡ get_or es at m
    → all ≡ joined_free d (beside d (drop left es)) → part ≡ fitted (shape_of d m).width (free_of d m) → more ≡ all ++ part → more ≡ joined_free d (beside d (drop at es))
unfolding joined_free
free_more d es at left m all part more step inside is so_far here put =
    put ∙ (λ k. so_far k ++ here k) ∙ ap (λ (l : List Expr). joined_free d (beside d l)) (sym (drop_more es at m (omega (arith, step, inside)) ∙ (λ k. sym is k ∷ drop (sym step k) es)))

pub no_free : (d : Parts) (es : List Expr) → [] ≡ joined_free d (beside d (drop (length es) es))
unfolding joined_free
no_free d es = ap (λ (l : List Expr). joined_free d (beside d l)) (sym (drop_all (length es) es (omega arith)))

-- ---- the same, bit by bit

same_first : (free : List Bool) (a b : Tern) (x y : List Tern) → all_of (same_at free (a ∷ x) (b ∷ y)) ≡ and_of (same_bit (get_or free 0 false) a b) (all_of (same_at (drop 1 free) x y))
unfolding same_at
same_first [] a b x y = refl
same_first (true ∷ free) a b x y = sym (one_and (all_of (same_at free x y)))
  where
    one_and : (t : Tern) → and_of One t ≡ t
    one_and t = search rules
same_first (false ∷ free) a b x y = refl

at_first : (free : List Bool) (i : ℕ) → get_or (drop i free) 0 false ≡ get_or free i false
at_first free i = get_or-drop i free 0 false ∙ ap (λ (n : ℕ). get_or free n false) (omega arith)

pub same_more : (so_far : Tern) (free : List Bool) (x y : List Tern) (i : ℕ) (d e whole : Tern) → i < length x → i < length y → and_of so_far (all_of (same_at (drop i free) (drop i x) (drop i y))) ≡ whole
    → and_of (and_of so_far (same_bit (get_or free i false) (get_or x i d) (get_or y i e))) (all_of (same_at (drop (i + 1) free) (drop (i + 1) x) (drop (i + 1) y))) ≡ whole
same_more so_far free x y i d e whole in_x in_y h =
    let rest = all_of (same_at (drop (i + 1) free) (drop (i + 1) x) (drop (i + 1) y)) in
    let bit = same_bit (get_or free i false) (get_or x i d) (get_or y i e) in
    let here : all_of (same_at (drop i free) (drop i x) (drop i y)) ≡ and_of bit rest =
    (λ k. all_of (same_at (drop i free) (drop_more x i d in_x k) (drop_more y i e in_y k)))
    ∙ same_first (drop i free) (get_or x i d) (get_or y i e) (drop (i + 1) x) (drop (i + 1) y)
    ∙ (λ k. and_of (same_bit (at_first free i k) (get_or x i d) (get_or y i e)) (all_of (same_at (drop-drop 1 i free k) (drop (i + 1) x) (drop (i + 1) y)))) in
    and_assoc so_far bit rest ∙ ap (and_of so_far) (sym here) ∙ h

no_same : (free : List Bool) (x y : List Tern) → min (length x) (length y) ≤ 0 → all_of (same_at free x y) ≡ One
unfolding same_at
no_same free [] y past = refl
no_same free (a ∷ x) [] past = refl
no_same free (a ∷ x) (b ∷ y) past = absurd (omega (arith, past))

pub same_end : (so_far : Tern) (free : List Bool) (x y : List Tern) (i : ℕ) (whole : Tern) → min (length x) (length y) ≤ i → and_of so_far (all_of (same_at (drop i free) (drop i x) (drop i y))) ≡ whole → so_far ≡ whole
same_end so_far free x y i whole past h =
    sym (and_one so_far) ∙ ap (and_of so_far) (sym (no_same (drop i free) (drop i x) (drop i y) (grind (arith, length-drop i x, length-drop i y, past)))) ∙ h

-- ---- some labels

pub hit_more : (f : Expr → Tern) (so_far t whole : Tern) (es : List Expr) (i : ℕ) (m : Expr) → i < length es → m ≡ get_or es i m → t ≡ f m → or_of so_far (any_of (map f (drop i es))) ≡ whole
    → or_of (or_of so_far t) (any_of (map f (drop (i + 1) es))) ≡ whole
hit_more f so_far t whole es i m lt is hit h =
    or_assoc so_far t (any_of (map f (drop (i + 1) es)))
    ∙ ap (λ (u : Tern). or_of so_far (or_of u (any_of (map f (drop (i + 1) es))))) (hit ∙ ap f is)
    ∙ ap (λ (l : List Expr). or_of so_far (any_of (map f l))) (sym (drop_more es i m lt)) ∙ h

pub hit_end : (f : Expr → Tern) (so_far whole : Tern) (es : List Expr) (i : ℕ) → length es ≤ i → or_of so_far (any_of (map f (drop i es))) ≡ whole → so_far ≡ whole
hit_end f so_far whole es i past h = sym (or_zero so_far) ∙ ap (λ (l : List Expr). or_of so_far (any_of (map f l))) (sym (drop_all i es past)) ∙ h
