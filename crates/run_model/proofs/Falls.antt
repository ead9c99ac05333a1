-- A round that changes something leaves fewer settled values.
use Rattle.std.proofs.Common.{◌≡◌, ℕ, zero, suc, ◌<◌, Bool, true, false, not, ◌&&◌, ◌||◌, List, [], ◌∷◌, length, set, refl, sym, inl, inr, ap, ◌∙◌, subst, arith}
use Rattle.std.proofs.lemmas.List.{set-get_or}
use Rattle.rdc_tern.specs.declared.value.Tern.{Tern}
use Rattle.rdc_tern.specs.declared.value.Tern.TheVariants.{Zero, One, Unsettled}
use Rattle.rdc_tern.specs.Kleene.{IsBelow, IsSettled}
use Rattle.run_model.specs.State.{at}
use Rattle.run_model.specs.Passes.{is_unsettled, settled_count, FallsIf}

count_first : (x v : Tern) (xs : List Tern) → IsSettled x → v ≡ Unsettled → settled_count (v ∷ xs) < settled_count (x ∷ xs)
count_first x Zero xs h e = absurd (cc)
count_first x One xs h e = absurd (cc)
count_first Zero Unsettled xs h e = omega arith
count_first One Unsettled xs h e = omega arith
count_first Unsettled Unsettled xs h e = absurd (h refl)

one_more : (x : Tern) (xs ys : List Tern) → settled_count ys < settled_count xs → settled_count (x ∷ ys) < settled_count (x ∷ xs)
one_more Zero xs ys h = omega arith
one_more One xs ys h = omega arith
one_more Unsettled xs ys h = h

set_falls : (xs : List Tern) (k : ℕ) (v : Tern) → k < length xs → IsSettled (at xs k) → v ≡ Unsettled → settled_count (set xs k v) < settled_count xs
set_falls [] k v inside h e = absurd (omega arith)
set_falls (x ∷ xs) zero v inside h e = count_first x v xs h e
set_falls (x ∷ xs) (suc k) v inside h e = one_more x xs (set xs k v) (set_falls xs k v (omega arith) h e)

kept_same : (xs : List Tern) (k : ℕ) (v : Tern) → v ≡ at xs k → set xs k v ≡ xs
kept_same xs k v same = ap (λ w. set xs k w) same ∙ set-get_or xs k Unsettled

raise_case : (xs : List Tern) (k : ℕ) (w v : Tern) → w ≡ at xs k → k < length xs → IsBelow w v → FallsIf (not (is_unsettled w) && is_unsettled v) xs (set xs k v)
raise_case xs k Zero Zero is inside below = kept_same xs k Zero is
raise_case xs k Zero One is inside (inl same) = absurd (cc)
raise_case xs k Zero One is inside (inr x) = absurd (cc)
raise_case xs k Zero Unsettled is inside below = set_falls xs k Unsettled inside (λ e. let z : Zero ≡ Unsettled = is ∙ e in cc) refl
raise_case xs k One Zero is inside (inl same) = absurd (cc)
raise_case xs k One Zero is inside (inr x) = absurd (cc)
raise_case xs k One One is inside below = kept_same xs k One is
raise_case xs k One Unsettled is inside below = set_falls xs k Unsettled inside (λ e. let z : One ≡ Unsettled = is ∙ e in cc) refl
raise_case xs k Unsettled Zero is inside (inl same) = absurd (cc)
raise_case xs k Unsettled Zero is inside (inr x) = absurd (cc)
raise_case xs k Unsettled One is inside (inl same) = absurd (cc)
raise_case xs k Unsettled One is inside (inr x) = absurd (cc)
raise_case xs k Unsettled Unsettled is inside below = kept_same xs k Unsettled is

-- a value that is raised was settled and is X, or is kept
pub raise_falls : (xs : List Tern) (k : ℕ) (w v : Tern) (b : Bool) → w ≡ at xs k → k < length xs → IsBelow w v
    → b ≡ (not (is_unsettled w) && is_unsettled v) → FallsIf b xs (set xs k v)
raise_falls xs k w v b is inside below test = subst (λ c. FallsIf c xs (set xs k v)) (sym test) (raise_case xs k w v is inside below)

pub falls_then : (a b : Bool) (xs ys zs : List Tern) → FallsIf a xs ys → FallsIf b ys zs → FallsIf (a || b) xs zs
falls_then true true xs ys zs first second = omega arith
falls_then true false xs ys zs first second = subst (λ l. settled_count l < settled_count xs) (sym second) first
falls_then false true xs ys zs first second = subst (λ l. settled_count zs < settled_count l) first second
falls_then false false xs ys zs first second = second ∙ first
