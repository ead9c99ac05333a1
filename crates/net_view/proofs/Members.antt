-- Serves specs/Cone.antt: what lists contain, as they grow, are put in another order, and rise.
use Rattle.std.proofs.Common.{◌≡◌, ◌↔◌, ◌⊎◌, inl, inr, ℕ, ◌+◌, ◌<◌, List, [], ◌∷◌, ◌++◌, length, reverse, map, take, get_or, All, Contains, IsPermutation, sym, subst, zero, suc, ◌≤◌, ◌∙◌, arith}
use Rattle.std.proofs.lemmas.List.Elements.{Contains-append_left, Contains-append_right, Contains-append_cases, Contains-push, Contains-push_cases, Contains-get_or}
use Rattle.std.specs.List.Sorted.{IsStrictlyIncreasing}
use Rattle.std.proofs.lemmas.Bool.{cases_lt}
use Rattle.std.proofs.lemmas.List.{map_more, get_or_default}
use Rattle.std.proofs.lemmas.List.Kept.{AllPairs-from_increasing}
use Rattle.std.proofs.lemmas.List.Sorted.{Contains-permutation, IsPermutation-sym, IsPermutation-reverse}
use Rattle.net_view.specs.Due.{Adds}

module _ {X : Type 0} where
  pub contains_none : (x : X) → Contains [] x → ⊥
  contains_none x h = absurd (omega (arith, h.1))

  pub contains_head : (x : X) (xs : List X) → Contains (x ∷ xs) x
  contains_head x xs = Contains-append_left (x ∷ []) xs x (Contains-push [] x)

  pub contains_behind : (x y : X) (xs : List X) → Contains xs y → Contains (x ∷ xs) y
  contains_behind x y xs h = Contains-append_right (x ∷ []) xs y h

  pub contains_cases : (x y : X) (xs : List X) → Contains (x ∷ xs) y → (y ≡ x) ⊎ Contains xs y
  contains_cases x y xs h =
      elim (Contains-append_cases (x ∷ []) xs y h) [
        | inl first ↦ elim (Contains-push_cases [] x y first) [ inl none ↦ absurd (contains_none y none) | inr is ↦ inl (sym is) ]
        | inr rest ↦ inr rest
      ]

  pub All-from_contains : (P : X → Type 0) (xs : List X) → ((x : X) → Contains xs x → P x) → All P xs
  All-from_contains P xs h k d lt = h (get_or xs k d) (Contains-get_or xs k d lt)

  pub contains_reverse : (xs : List X) (x : X) → Contains (reverse xs) x ↔ Contains xs x
  contains_reverse xs x =
      (Contains-permutation (reverse xs) xs x (IsPermutation-sym xs (reverse xs) (IsPermutation-reverse xs)), Contains-permutation xs (reverse xs) x (IsPermutation-reverse xs))

-- one more number, in some order
pub adds_one : (x : ℕ) (old new : List ℕ) → IsPermutation (x ∷ old) new → Adds (λ n. n ≡ x) old new
adds_one x old new moved = record {
  each = λ n. (
    λ h. contains_cases x n old (Contains-permutation new (x ∷ old) n (IsPermutation-sym (x ∷ old) new moved) h),
    λ h.
        Contains-permutation (x ∷ old) new n moved (elim h [ inl is ↦ subst (λ (z : ℕ). Contains (x ∷ old) z) (sym is) (contains_head x old) | inr rest ↦ contains_behind x n old rest ]),
  );
}

-- one addition after another
pub adds_both : (P Q R : ℕ → Type 0) (a b c : List ℕ) → ((n : ℕ) → R n ↔ (P n ⊎ Q n)) → Adds P a b → Adds Q b c → Adds R a c
adds_both P Q R a b c both first second = record {
  each = λ n. (
    λ h.
        elim ((second.each n).0 h) [
          | inl q ↦ inl ((both n).1 (inr q))
          | inr old ↦ elim ((first.each n).0 old) [ inl p ↦ inl ((both n).1 (inl p)) | inr older ↦ inr older ]
        ],
    λ h.
        (second.each n).1 (elim h [
          | inl r ↦ elim ((both n).0 r) [ inl p ↦ inr ((first.each n).1 (inl p)) | inr q ↦ inl q ]
          | inr old ↦ inr ((first.each n).1 (inr old))
        ]),
  );
}

-- a list added to nothing
pub adds_itself : (xs : List ℕ) → Adds (Contains xs) [] xs
adds_itself xs = record { each = λ n. (λ h. inl h, λ h. elim h [ inl h ↦ h | inr none ↦ absurd (contains_none n none) ]) }

-- nothing more
pub adds_none : (P : ℕ → Type 0) (old : List ℕ) → ((n : ℕ) → P n → ⊥) → Adds P old old
adds_none P old none = record { each = λ n. (λ h. inr h, λ h. elim h [ inl p ↦ absurd (none n p) | inr h ↦ h ]) }

-- one more element of a list, by its number
pub adds_more : {X : Type 0} (number : X → ℕ) (xs : List X) (i : ℕ) (d : X) (old new : List ℕ) → i < length xs → Adds (Contains (map number (take i xs))) [] old → Adds (λ n. n ≡ number (get_or xs i d)) old new
    → Adds (Contains (map number (take (i + 1) xs))) [] new
adds_more number xs i d old new lt before more =
    let P : ℕ → Type 0 = Contains (map number (take i xs)) in
    let Q : ℕ → Type 0 = λ n. n ≡ number (get_or xs i d) in
    let pushed = map number (take i xs) ++ number (get_or xs i d) ∷ [] in
    let cases : (n : ℕ) → Contains pushed n ↔ (P n ⊎ Q n) = λ n. (
      λ h. elim (Contains-push_cases (map number (take i xs)) (number (get_or xs i d)) n h) [ inl p ↦ inl p | inr is ↦ inr (sym is) ],
      λ h. elim h [ inl p ↦ Contains-append_left (map number (take i xs)) (number (get_or xs i d) ∷ []) n p | inr is ↦ subst (λ (z : ℕ). Contains pushed z) (sym is) (Contains-push (map number (take i xs)) (number (get_or xs i d))) ],
    ) in
    subst (λ (zs : List ℕ). Adds (Contains zs) [] new) (sym (map_more number xs i d lt)) (adds_both P Q (Contains pushed) [] old new cases before more)

-- of two places of a rising list the later has the greater number
pub rising_lt : (xs : List ℕ) → IsStrictlyIncreasing xs → (i j : ℕ) → i < j → j < length xs → get_or xs i 0 < get_or xs j 0
rising_lt xs rising i j lt within = AllPairs-from_increasing xs rising i j 0 lt within

pub rising_le : (xs : List ℕ) → IsStrictlyIncreasing xs → (i j : ℕ) → i ≤ j → j < length xs → get_or xs i 0 ≤ get_or xs j 0
rising_le xs rising i j le within = elim (cases_lt i j) [
  | inl lt ↦ let up = rising_lt xs rising i j lt within in omega arith
  | inr ge ↦ let same : i ≡ j = omega arith in subst (λ (k : ℕ). get_or xs i 0 ≤ get_or xs k 0) same (omega arith)
]

-- equal numbers of a rising list stand at one place
pub rising_once : (xs : List ℕ) → IsStrictlyIncreasing xs → (i j : ℕ) → i < length xs → j < length xs → get_or xs i 0 ≡ get_or xs j 0 → i ≡ j
rising_once xs rising i j i-in j-in same = elim (cases_lt i j) [
  | inl lt ↦ let up = rising_lt xs rising i j lt j-in in absurd (omega arith)
  | inr ge ↦ elim (cases_lt j i) [
    | inl lt ↦ let up = rising_lt xs rising j i lt i-in in absurd (omega arith)
    | inr le ↦ omega arith
  ]
]

-- where a number stands
pub contains_at : (xs : List ℕ) (x : ℕ) → Contains xs x → (k : ℕ) × (k < length xs) × (get_or xs k 0 ≡ x)
contains_at xs x h = (h.0, h.1, get_or_default xs h.0 0 x h.1 ∙ h.2)

-- rising numbers below a bound are at most so many
pub rising_above : (xs : List ℕ) → IsStrictlyIncreasing xs → (k : ℕ) → k < length xs → k ≤ get_or xs k 0
rising_above xs rising zero within = omega arith
rising_above xs rising (suc k) within = let up = rising_lt xs rising k (suc k) (omega arith) within in let below = rising_above xs rising k (omega arith) in omega arith

pub rising_short : (xs : List ℕ) (bound : ℕ) → IsStrictlyIncreasing xs → All (λ n. n < bound) xs → length xs ≤ bound
rising_short xs bound rising all = elim (cases_lt bound (length xs)) [
  | inl lt ↦ let high = rising_above xs rising bound lt in let low = all bound 0 lt in absurd (omega arith)
  | inr le ↦ le
]
