-- Facts on lists of numbers, and on a state with one value replaced.
use Rattle.std.proofs.Common.{◌≡◌, ◌⊎◌, ℕ, zero, suc, ◌<◌, List, [], ◌∷◌, length, set, Contains, refl, sym, ◌∙◌, subst, inl, inr, arith, eq-eqb, ne_eqb, get_or-set_same, get_or-set_other}
use mathlib.Core.Path.{fun_ext}
use Rattle.rdc_tern.specs.declared.value.Tern.TheVariants.{Unsettled}
use Rattle.rdc_tern.specs.declared.value.Tern.{Tern}
use Rattle.run_model.specs.State.{State, at, with_value}

pub contains_split : (ks : List ℕ) (k n : ℕ) → Contains (k ∷ ks) n → (n ≡ k) ⊎ Contains ks n
contains_split ks k n (zero, below, here) = inl (sym here)
contains_split ks k n (suc i, below, here) = inr (i, omega arith, here)

pub contains_here : (ks : List ℕ) (k : ℕ) → Contains (k ∷ ks) k
contains_here ks k = (zero, omega arith, refl)

pub contains_later : (ks : List ℕ) (k n : ℕ) → Contains ks n → Contains (k ∷ ks) n
contains_later ks k n (i, below, here) = (suc i, omega arith, here)

pub contains_none : (n : ℕ) → Contains [] n → ⊥
contains_none n (i, below, here) = omega arith

pub with_value-same : (s : State) (n : ℕ) (v : Tern) → with_value s n v n ≡ v
with_value-same s n v = rw (eq-eqb n n refl)

pub with_value-other : (s : State) (n : ℕ) (v : Tern) (k : ℕ) → (k ≡ n → ⊥) → with_value s n v k ≡ s k
with_value-other s n v k ne = rw (ne_eqb k n ne)

pub one_of : (k n : ℕ) → (k ≡ n) ⊎ (k ≡ n → ⊥)
one_of k n = grind arith

-- a write into a slice replaces one value
pub at-set : (xs : List Tern) (n : ℕ) (v : Tern) → n < length xs → at (set xs n v) ≡ with_value (at xs) n v
at-set xs n v inside = fun_ext (λ k. elim (one_of k n) [
  | inl same ↦
      subst (λ j. at (set xs n v) j ≡ with_value (at xs) n v j) (sym same) (get_or-set_same xs n v Unsettled inside ∙ sym (with_value-same (at xs) n v))
  | inr other ↦ get_or-set_other xs n k v Unsettled other ∙ sym (with_value-other (at xs) n v k other)
])
