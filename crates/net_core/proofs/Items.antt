-- Serves specs/Net.antt: the items of a list with one more, or with another in a place.
use Rattle.std.proofs.Common.{◌≡◌, ℕ, zero, suc, ◌⊎◌, List, [], ◌∷◌, ◌++◌, length, set, refl, ap, inl, inr, Some, slice_get}

module _ {X : Type 0} where
  some_is : (a b : X) → Some a ≡ Some b → a ≡ b
  some_is a b e = cc

  -- an item of a list with one more
  pub push_cases : (xs : List X) (x : X) (k : ℕ) (y : X) → slice_get (xs ++ x ∷ []) k ≡ Some y → (slice_get xs k ≡ Some y) ⊎ ((k ≡ length xs) × (x ≡ y))
  push_cases [] x zero y is = inr (refl, some_is x y is)
  push_cases [] x (suc k) y is = absurd (cc)
  push_cases (z ∷ zs) x zero y is = inl is
  push_cases (z ∷ zs) x (suc k) y is = elim (push_cases zs x k y is) [ inl h ↦ inl h | inr h ↦ inr (ap suc h.0, h.1) ]

  -- an item of a list with another in a place
  pub set_cases : (xs : List X) (i : ℕ) (x : X) (k : ℕ) (y : X) → slice_get (set xs i x) k ≡ Some y → (slice_get xs k ≡ Some y) ⊎ (x ≡ y)
  set_cases [] i x k y is = inl is
  set_cases (z ∷ zs) zero x zero y is = inr (some_is x y is)
  set_cases (z ∷ zs) zero x (suc k) y is = inl is
  set_cases (z ∷ zs) (suc i) x zero y is = inl is
  set_cases (z ∷ zs) (suc i) x (suc k) y is = set_cases zs i x k y is
