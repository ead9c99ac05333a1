-- A list that numbers with a property are pushed onto, from the least on.
use Rattle.std.proofs.Common.{◌≡◌, ◌⊎◌, ℕ, zero, suc, ◌+◌, ◌<◌, ◌≤◌, List, [], ◌∷◌, ◌++◌, length, get_or, Contains, refl, sym, subst, inl, inr, arith, length-append}
use Rattle.std.specs.Prelude.{◌↔◌}
use Rattle.std.specs.List.Sorted.{IsStrictlyIncreasing}
use Rattle.std.proofs.Math.Seq.{get_or-append_seam}
use Rattle.std.proofs.lemmas.List.{get_or_append_left}
use Rattle.std.proofs.lemmas.List.Elements.{Contains-append_left, Contains-append_right, Contains-append_cases}
use Rattle.net_view.specs.Cone.{Lists}

-- the numbers with the property below n, each once, ascending
pub record ListsBelow (P : ℕ → Type 0) (n : ℕ) (found : List ℕ) : Type 0 where
  pub ascending : IsStrictlyIncreasing found
  pub whole : (k : ℕ) → Contains found k ↔ (P k × (k < n))

contains_none : (k : ℕ) → Contains [] k → ⊥
contains_none k (i, below, here) = omega arith

contains_one : (n k : ℕ) → Contains (n ∷ []) k → k ≡ n
contains_one n k (zero, below, here) = sym here
contains_one n k (suc i, below, here) = absurd (omega arith)

pub lists_none : (P : ℕ → Type 0) → ListsBelow P 0 []
lists_none P = record {
  ascending = λ k lt. absurd (omega arith);
  whole = λ k. (λ is. absurd (contains_none k is), λ is. absurd (omega (arith, is.1)));
}

at_place : (xs : List ℕ) (k : ℕ) → k < length xs → Contains xs (get_or xs k 0)
at_place [] k lt = absurd (omega arith)
at_place (x ∷ xs) zero lt = (0, lt, refl)
at_place (x ∷ xs) (suc k) lt = let rest = at_place xs k (omega arith) in (suc rest.0, omega (arith, rest.1), rest.2)

ascending_push : (xs : List ℕ) (n : ℕ) → IsStrictlyIncreasing xs → ((x : ℕ) → Contains xs x → x < n) → IsStrictlyIncreasing (xs ++ (n ∷ []))
ascending_push xs n ascending below k lt =
    let len = length-append xs (n ∷ []) in
    let here : k < length xs = omega (arith, len) in
    elim (next_of k (length xs) here) [
      | inl within ↦ rw (get_or_append_left xs (n ∷ []) 0 k here, get_or_append_left xs (n ∷ []) 0 (k + 1) within) (ascending k within)
      | inr last ↦ rw (get_or_append_left xs (n ∷ []) 0 k here, last, get_or-append_seam xs n [] 0) (below (get_or xs k 0) (at_place xs k here))
    ]
  where
    next_of : (k n : ℕ) → k < n → (k + 1 < n) ⊎ (k + 1 ≡ n)
    next_of k n lt = grind arith

pub lists_push : (P : ℕ → Type 0) (n : ℕ) (found : List ℕ) → ListsBelow P n found → P n → ListsBelow P (n + 1) (found ++ (n ∷ []))
lists_push P n found lists is = record {
  ascending = ascending_push found n lists.ascending (λ x member. ((lists.whole x).0 member).1);
  whole = λ k. (
    λ member. elim (Contains-append_cases found (n ∷ []) k member) [
      | inl old ↦ let has = (lists.whole k).0 old in (has.0, omega (arith, has.1))
      | inr new ↦ let same = contains_one n k new in (subst P (sym same) is, omega (arith, same))
    ],
    λ has. elim (below_or k n has.1) [
      | inl old ↦ Contains-append_left found (n ∷ []) k ((lists.whole k).1 (has.0, old))
      | inr same ↦ Contains-append_right found (n ∷ []) k (0, omega arith, sym same)
    ],
  );
}
  where
    below_or : (k n : ℕ) → k < n + 1 → (k < n) ⊎ (k ≡ n)
    below_or k n lt = grind arith

pub lists_skip : (P : ℕ → Type 0) (n : ℕ) (found : List ℕ) → ListsBelow P n found → (P n → ⊥) → ListsBelow P (n + 1) found
lists_skip P n found lists none = record {
  ascending = lists.ascending;
  whole = λ k. (λ member. let has = (lists.whole k).0 member in (has.0, omega (arith, has.1)), λ has. (lists.whole k).1 (has.0, other k has.0 has.1));
}
  where
    below_of : (k n : ℕ) → k < n + 1 → (k < n) ⊎ (k ≡ n)
    below_of k n lt = grind arith

    other : (k : ℕ) → P k → k < n + 1 → k < n
    other k is lt = elim (below_of k n lt) [ inl old ↦ old | inr same ↦ absurd (none (subst P same is)) ]

pub lists_all : (P : ℕ → Type 0) (n : ℕ) (found : List ℕ) → ListsBelow P n found → ((k : ℕ) → P k → k < n) → Lists P found
lists_all P n found lists within = record {
  ascending = lists.ascending;
  whole = λ k. (λ member. ((lists.whole k).0 member).0, λ is. (lists.whole k).1 (is, within k is));
}

-- the numbers are below
pub lists_within : (P : ℕ → Type 0) (n m : ℕ) (found : List ℕ) → ListsBelow P n found → n ≤ m → (k d : ℕ) → k < length found → get_or found k d < m
lists_within P n m found lists le k d lt =
    let here = at_any found k d lt in
    omega (arith, ((lists.whole (get_or found k d)).0 here).1)
  where
    at_any : (xs : List ℕ) (k d : ℕ) → k < length xs → Contains xs (get_or xs k d)
    at_any [] k d lt = absurd (omega arith)
    at_any (x ∷ xs) zero d lt = (0, lt, refl)
    at_any (x ∷ xs) (suc k) d lt = let rest = at_any xs k d (omega arith) in (suc rest.0, omega (arith, rest.1), rest.2)
