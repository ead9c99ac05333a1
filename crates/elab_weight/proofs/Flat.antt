-- Lists and sums of what each of some gives.
use Rattle.std.proofs.Common.{◌≡◌, ℕ, ◌+◌, List, [], ◌∷◌, ◌++◌, map, refl, sym, ap, ◌∙◌}
use Rattle.std.specs.List.{flat_map, sum_by}
use Rattle.std.proofs.lemmas.List.Sums.{sum_by-cons}

pub flat_map-map : {A B C : Type 0} (f : B → List C) (g : A → B) (h : A → List C) → ((a : A) → f (g a) ≡ h a) → (xs : List A) → flat_map f (map g xs) ≡ flat_map h xs
flat_map-map f g h same [] = refl
flat_map-map {A} {B} {C} f g h same (x ∷ xs) = ap (λ (ys : List C). ys ++ flat_map f (map g xs)) (same x) ∙ ap (λ (ys : List C). h x ++ ys) (flat_map-map f g h same xs)

pub sum-map : {A B : Type 0} (f : B → ℕ) (g : A → B) (h : A → ℕ) → ((a : A) → f (g a) ≡ h a) → (xs : List A) → sum_by f (map g xs) ≡ sum_by h xs
sum-map f g h same [] = refl
sum-map f g h same (x ∷ xs) =
    sum_by-cons f (g x) (map g xs) ∙ ap (λ n. n + sum_by f (map g xs)) (same x) ∙ ap (λ n. h x + n) (sum-map f g h same xs) ∙ sym (sum_by-cons h x xs)
