-- A pass over a list, one element at a time; what a pass has written; which number is the least.
use Rattle.std.proofs.Common.{◌≡◌, ◌⊎◌, ℕ, suc, ◌+◌, ◌<◌, ◌≤◌, min, Bool, true, false, IsTrue, List, [], ◌∷◌, length, drop, get_or, map, Contains, Option, Some, None, refl, sym, inl, inr, ap, ◌∙◌, subst, arith, drop-cons, add-one}
use mathlib.Core.Path.{fun_ext}
use Rattle.run_model.specs.State.{State, with_value}
use Rattle.run_model.specs.Machine.{FlopMeaning, Meaning, APort, AFlop}
use Rattle.run_model.specs.Laws.{ListsFlops}
use Rattle.run_model.specs.Passes.{written, better, least_of}
use Rattle.run_model.proofs.Places.{contains_split, contains_here, contains_later, contains_none, with_value-same, with_value-other, one_of}

pub map_drop : {S : Type 0} (f : S → ℕ) (xs : List S) (i : ℕ) (x : S) → i < length xs → x ≡ get_or xs i x → map f (drop i xs) ≡ f x ∷ map f (drop (i + 1) xs)
map_drop f xs i x below is = ap (λ ys. map f ys) (drop-cons xs i x below) ∙ ap (λ y. f y ∷ map f (drop (suc i) xs)) (sym is) ∙ ap (λ j. f x ∷ map f (drop j xs)) (sym (add-one i))

-- one more is written
pub written-step : {S : Type 0} (value : State) (f : S → ℕ) (xs : List S) (i : ℕ) (x : S) (s t : State) → i < length xs → x ≡ get_or xs i x
    → t ≡ with_value s (f x) (value (f x)) → written value (map f (drop (i + 1) xs)) t ≡ written value (map f (drop i xs)) s
written-step value f xs i x s t below is here =
    ap (λ u. written value (map f (drop (i + 1) xs)) u) here ∙ sym (ap (λ ns. written value ns s) (map_drop f xs i x below is))

pub listed_or_not : (ns : List ℕ) (n : ℕ) → Contains ns n ⊎ (Contains ns n → ⊥)
listed_or_not [] n = inr (contains_none n)
listed_or_not (k ∷ ks) n = elim (one_of n k) [
  | inl same ↦ inl (subst (λ j. Contains (k ∷ ks) j) (sym same) (contains_here ks k))
  | inr other ↦ elim (listed_or_not ks n) [
    | inl later ↦ inl (contains_later ks k n later)
    | inr out ↦ inr (λ c. elim (contains_split ks k n c) [ inl e ↦ other e | inr l ↦ out l ])
  ]
]

written-outside : (value : State) (ns : List ℕ) (s : State) (n : ℕ) → (Contains ns n → ⊥) → written value ns s n ≡ s n
written-outside value [] s n out = refl
written-outside value (k ∷ ks) s n out =
    written-outside value ks (with_value s k (value k)) n (λ c. out (contains_later ks k n c))
    ∙ with_value-other s k (value k) n (λ e. out (subst (λ j. Contains (k ∷ ks) j) (sym e) (contains_here ks k)))

written-listed : (value : State) (ns : List ℕ) (s : State) (n : ℕ) → Contains ns n → written value ns s n ≡ value n
written-listed value [] s n c = absurd (contains_none n c)
written-listed value (k ∷ ks) s n c = elim (listed_or_not ks n) [
  | inl later ↦ written-listed value ks (with_value s k (value k)) n later
  | inr out ↦ elim (contains_split ks k n c) [
    | inr l ↦ absurd (out l)
    | inl same ↦ written-outside value ks (with_value s k (value k)) n out
        ∙ subst (λ j. with_value s k (value k) j ≡ value j) (sym same) (with_value-same s k (value k))
  ]
]

-- where the pass changes all that differs, it leaves the values that it wrote
pub written-whole : (value : State) (ns : List ℕ) (s : State) → ((n : ℕ) → (Contains ns n → ⊥) → s n ≡ value n) → written value ns s ≡ value
written-whole value ns s kept = fun_ext (λ n. elim (listed_or_not ns n) [
  | inl c ↦ written-listed value ns s n c
  | inr out ↦ written-outside value ns s n out ∙ kept n out
])

flop_or_port : (x : Meaning) → (x ≡ APort) ⊎ ((f : FlopMeaning) × (x ≡ AFlop f))
flop_or_port APort = inl refl
flop_or_port (AFlop f) = inr (f, refl)

pub unlisted_port : (source : ℕ → Meaning) (ns : List ℕ) → ListsFlops source ns → (n : ℕ) → (Contains ns n → ⊥) → source n ≡ APort
unlisted_port source ns lists n out = elim (flop_or_port (source n)) [ inl port ↦ port | inr (f, is) ↦ absurd (out (lists n f is)) ]

better_none : (b : Option ℕ) (t : Bool) (n : ℕ) → better b t n ≡ None → (b ≡ None) × (t ≡ false)
better_none b false n e = (e, refl)
better_none b true n e = absurd (cc)

pub least_none : (test : ℕ → Bool) (ns : List ℕ) (b : Option ℕ) → least_of test ns b ≡ None → (b ≡ None) × ((n : ℕ) → Contains ns n → IsTrue (test n) → ⊥)
least_none test [] b e = (e, λ n c t. contains_none n c)
least_none test (k ∷ ks) b e =
    let rest = least_none test ks (better b (test k) k) e in
    let here = better_none b (test k) k rest.0 in (
      here.0,
      λ n c t. elim (contains_split ks k n c) [
        | inl same ↦ let passes = subst (λ j. IsTrue (test j)) same t in let fails = here.1 in absurd (cc)
        | inr later ↦ rest.1 n later t
      ],
    )

-- the least of a list and the best so far
pub record IsLeastOf (test : ℕ → Bool) (ns : List ℕ) (b : Option ℕ) (n : ℕ) : Type 0 where
  pub found : (b ≡ Some n) ⊎ IsTrue (test n)
  pub under_best : (k : ℕ) → b ≡ Some k → n ≤ k
  pub under : (k : ℕ) → Contains ns k → IsTrue (test k) → n ≤ k

better_found : (b : Option ℕ) (t : Bool) (k n : ℕ) → better b t k ≡ Some n → (b ≡ Some n) ⊎ (IsTrue t × (n ≡ k))
better_found b false k n e = inl e
better_found None true k n e = inr (refl, let same : k ≡ n = cc in sym same)
better_found (Some j) true k n e =
    let same : min j k ≡ n = cc in
    elim (one_of n j) [ inl first ↦ inl (ap (λ i. Some i) (sym first)) | inr other ↦ inr (refl, omega arith) ]

better_under : (b : Option ℕ) (t : Bool) (k n : ℕ) → ((i : ℕ) → better b t k ≡ Some i → n ≤ i) → (i : ℕ) → b ≡ Some i → n ≤ i
better_under b false k n h i e = h i e
better_under None true k n h i e = absurd (cc)
better_under (Some j) true k n h i e = let same : j ≡ i = cc in let low : n ≤ min j k = h (min j k) refl in omega arith

better_here : (b : Option ℕ) (t : Bool) (k n : ℕ) → ((i : ℕ) → better b t k ≡ Some i → n ≤ i) → IsTrue t → n ≤ k
better_here b false k n h e = absurd (cc)
better_here None true k n h e = h k refl
better_here (Some j) true k n h e = let low : n ≤ min j k = h (min j k) refl in omega arith

pub least_some : (test : ℕ → Bool) (ns : List ℕ) (b : Option ℕ) (n : ℕ) → least_of test ns b ≡ Some n → IsLeastOf test ns b n
least_some test [] b n e = record {
  found = inl e;
  under_best = λ k same. let one : n ≡ k = cc in omega arith;
  under = λ k c t. absurd (contains_none k c);
}
least_some test (k ∷ ks) b n e =
    let rest = least_some test ks (better b (test k) k) n e in
    record {
      found = elim rest.found [
        | inl best ↦ elim (better_found b (test k) k n best) [ inl same ↦ inl same | inr (passes, here) ↦ inr (subst (λ j. IsTrue (test j)) (sym here) passes) ]
        | inr passes ↦ inr passes
      ];
      under_best = better_under b (test k) k n rest.under_best;
      under = λ j c t. elim (contains_split ks k j c) [
        | inl same ↦ let low = better_here b (test k) k n rest.under_best (subst (λ i. IsTrue (test i)) same t) in omega arith
        | inr later ↦ rest.under j later t
      ];
    }
