-- Serves specs/Places.antt: the flops of a net, found node by node, and in name order.
use Rattle.std.proofs.Common.{◌≡◌, ◌≢◌, ◌↔◌, ◌⊎◌, inl, inr, ℕ, ◌+◌, ◌<◌, ◌≤◌, Bool, true, false, List, [], ◌∷◌, ◌++◌, length, get_or, map, All, AllPairs, Contains, IsPermutation, Some, sym, subst, ap, refl, ◌∙◌, arith, eqb}
use Rattle.std.specs.Prelude.{slice_index, slice_get}
use Rattle.std.specs.Borrow.{Bor}
use Rattle.std.specs.Ordering.{nat_cmp, is_lt, ordering_then, ordering_reverse}
use Rattle.std.specs.declared.cmp.Ordering.{Ordering}
use Rattle.std.specs.declared.cmp.Ordering.TheVariants.{Less, Equal, Greater}
use Rattle.std.specs.Cmp.Lexicographic.{slice_cmp}
use Rattle.std.proofs.lemmas.Cmp.{nat_list_cmp_total, nat_cmp_total}
use Rattle.std.proofs.lemmas.Map.Lookups.{exact_bytes}
use Rattle.std.proofs.lemmas.List.{map-append, length-map, get_or-map, get_or_default}
use Rattle.std.proofs.lemmas.List.Elements.{Contains-push, Contains-push_cases, Contains-append_left, Contains-get_or, All-push, All-head, All-tail}
use Rattle.std.proofs.lemmas.List.Quantifiers.{all_pairs_push}
use Rattle.std.proofs.lemmas.Bool.{cases_lt}
use Rattle.std.proofs.lemmas.Option.{slice_get_cases, slice_get_within}
use Rattle.std.proofs.lemmas.List.Sorted.{IsPermutation-map, IsPermutation-sym, Contains-permutation, sorted_far, ranks_by}
use Rattle.std.specs.List.Sorted.{IsSortedBy}
use Rattle.std.specs.Cmp.{unsigned_Decides, nat_eq_equiv, then_total, on_total}
use Rattle.std.proofs.lemmas.Map.Keys.{IsDistinct-IsPermutation}
use Rattle.std.proofs.lemmas.Map.Made.{IsDistinct-from_AllPairs, AllPairs-from_IsDistinct}
use Rattle.std.proofs.lemmas.Grind.{common_steps}
use Rattle.net_view.specs.declared.gate.Gate.TheVariants.{Source}
use Rattle.net_view.specs.View.{Numbered, IsGateAt, IsNet}
use Rattle.net_view.specs.FlopNet.{Kind}
use Rattle.net_view.specs.PinOrder.{IsFlop, IsFlopNode, IsNamedBefore, name_of}
use Rattle.net_view.specs.Places.{AreNamed, AreFlops, IsNamedInOrder}
use Rattle.net_view.proofs.ValuesLemmas.{some_is}
use Rattle.net_view.proofs.Members.{contains_none}

not_false : true ≡ false → ⊥
not_false e = cc

-- one more node that is a flop
pub flops_more : (gates : List Numbered) (kinds : List Kind) (count : ℕ) (n s : ℕ) (flops : List ℕ) → IsNet gates count → IsFlopNode gates kinds n s → AreFlops gates kinds n flops → AreFlops gates kinds (n + 1) (flops ++ s ∷ [])
flops_more gates kinds count n s flops net is before = record {
  each = λ t. (
    λ h. elim (Contains-push_cases flops s t h) [
      | inl old ↦ let w = (before.each t).0 old in (w.0, omega (arith, w.1), w.2)
      | inr e ↦ (n, omega arith, subst (λ (z : ℕ). IsFlopNode gates kinds n z) e is)
    ],
    λ h. elim (cases_lt h.0 n) [
      | inl low ↦ Contains-append_left flops (s ∷ []) t ((before.each t).1 (h.0, low, h.2))
      | inr ge ↦
          let n-is : h.0 ≡ n = omega (arith, h.1) in
          let same : Source s ≡ Source t = some_is (Source s) (Source t) (sym is.0 ∙ subst (λ (z : ℕ). IsGateAt gates z (Source t)) n-is h.2.0) in
          let s-is : s ≡ t = cc in
          subst (λ (z : ℕ). Contains (flops ++ s ∷ []) z) s-is (Contains-push flops s)
    ],
  );
  apart = all_pairs_push (λ a b. a ≢ b) flops s before.apart
      (λ k d within same.
      let w = (before.each s).0 (subst (λ (z : ℕ). Contains flops z) same (Contains-get_or flops k d within)) in
      let n-is : w.0 ≡ n = net.once w.0 n s w.2.0 is.0 in
      absurd (omega (arith, w.1, n-is)));
}

-- one that is none
pub flops_same : (gates : List Numbered) (kinds : List Kind) (n : ℕ) (flops : List ℕ) → ((s : ℕ) → IsFlopNode gates kinds n s → ⊥) → AreFlops gates kinds n flops → AreFlops gates kinds (n + 1) flops
flops_same gates kinds n flops none before = record {
  each = λ t. (
    λ h. let w = (before.each t).0 h in (w.0, omega (arith, w.1), w.2),
    λ h. elim (cases_lt h.0 n) [
      | inl low ↦ (before.each t).1 (h.0, low, h.2)
      | inr ge ↦
          let n-is : h.0 ≡ n = omega (arith, h.1) in
          absurd (none t (subst (λ (z : ℕ). IsFlopNode gates kinds z t) n-is h.2))
    ],
  );
  apart = before.apart;
}

number_before : (m n : ℕ) → is_lt (nat_cmp n m) ≡ false → m ≢ n → m < n
number_before m n h ne = elim (cases_lt m n) [
  | inl lt ↦ lt
  | inr ge ↦ elim (cases_lt n m) [
    | inl gt ↦ grind (arith, common_steps)
    | inr le ↦ absurd (ne (omega arith))
  ]
]

-- sorted by name and then by number, two of different numbers
then_before : (a b : List ℕ) (m n : ℕ) (o p : Ordering) → o ≡ slice_cmp nat_cmp b a → p ≡ nat_cmp n m → is_lt (ordering_then o p) ≡ false → m ≢ n → (is_lt (slice_cmp nat_cmp a b) ≡ true) ⊎ ((a ≡ b) × (m < n))
then_before a b m n Less p o-is p-is h ne = absurd (not_false h)
then_before a b m n Greater p o-is p-is h ne = inl (ap is_lt (nat_list_cmp_total.antisymm a b ∙ ap ordering_reverse (sym o-is)))
then_before a b m n Equal p o-is p-is h ne =
    inr (sym (exact_bytes b a (sym o-is)), number_before m n (ap is_lt (sym p-is) ∙ h) ne)

-- sorted by name and then by number, they are in name order
pub named_in_order : {S : Type 0} (number : S → ℕ) (gates : List Numbered) (names : List (List ℕ)) (kinds : List Kind) (count : ℕ) (flops sorted : List (Bor (List ℕ) × ℕ × S)) → IsNet gates count → length kinds ≡ count
    → AreNamed number count names sorted → AreFlops gates kinds (length gates) (map (λ f. f.1) flops) → IsPermutation flops sorted
    → IsSortedBy (λ x y. is_lt (ordering_then (slice_cmp nat_cmp x.0.now y.0.now) (nat_cmp x.1 y.1))) sorted → IsNamedInOrder names kinds (map (λ f. f.1) sorted)
named_in_order {S} number gates names kinds count flops sorted net len named are moved up =
    let X : Type 0 = Bor (List ℕ) × ℕ × S in
    let one : X → ℕ = λ f. f.1 in
    let keys : List ℕ = map one flops in
    let numbers : List ℕ = map one sorted in
    let there : IsPermutation keys numbers = IsPermutation-map one flops sorted moved in
    let apart : AllPairs (λ a b. a ≢ b) numbers = AllPairs-from_IsDistinct unsigned_Decides numbers (IsDistinct-IsPermutation eqb (λ x y. nat_eq_equiv.symm x y) keys numbers there (IsDistinct-from_AllPairs unsigned_Decides keys are.apart)) in
    record {
      whole = λ s. (
        λ h. let w = (are.each s).0 (Contains-permutation numbers keys s (IsPermutation-sym keys numbers there) h) in w.2.1,
        λ is.
            let s-in : s < count = omega (arith, len, slice_get_within kinds s _ is.1) in
            let node = net.placed s s-in in
            Contains-permutation keys numbers s there ((are.each s).1 (node.0, slice_get_within gates node.0 _ node.1, (node.1, is))),
      );
      ordered = λ i j lt within.
          let j-in : j < length sorted = omega (arith, length-map sorted one) in
          let i-in : i < length sorted = omega arith in
          elim (slice_get_cases sorted j).1 [
            | inr past ↦ absurd (omega (arith, past.0))
            | inl here ↦
                let d : X = here.0 in
                let f : X = get_or sorted i d in
                let g : X = get_or sorted j d in
                let i-is : slice_index numbers i ≡ f.1 = get_or-map one sorted i d 0 i-in in
                let j-is : slice_index numbers j ≡ g.1 = get_or-map one sorted j d 0 j-in in
                let ne : f.1 ≢ g.1 = λ e. apart i j 0 lt within (i-is ∙ e ∙ sym j-is) in
                let far = sorted_far (λ (x y : X). is_lt (ordering_then (slice_cmp nat_cmp x.0.now y.0.now) (nat_cmp x.1 y.1)))
                (ranks_by (then_total (on_total (λ (x : X). x.0.now) nat_list_cmp_total) (on_total one nat_cmp_total)) (λ (x : X). x)) sorted up i j d (omega arith) j-in in
                let fn : name_of names f.1 ≡ f.0.now = (named i d i-in).2 in
                let gn : name_of names g.1 ≡ g.0.now = (named j d j-in).2 in
                let before : IsNamedBefore names f.1 g.1 = elim (then_before f.0.now g.0.now f.1 g.1 (slice_cmp nat_cmp g.0.now f.0.now) (nat_cmp g.1 f.1) refl refl far ne) [
                  | inl first ↦ inl (subst (λ (a : List ℕ). is_lt (slice_cmp nat_cmp a (name_of names g.1)) ≡ true) (sym fn) (subst (λ (b : List ℕ). is_lt (slice_cmp nat_cmp f.0.now b) ≡ true) (sym gn) first))
                  | inr same ↦ inr (fn ∙ same.0 ∙ sym gn, same.1)
                ] in
                subst (λ (z : ℕ). IsNamedBefore names z (slice_index numbers j)) (sym i-is) (subst (λ (z : ℕ). IsNamedBefore names f.1 z) (sym j-is) before)
          ];
    }

-- the ids' numbers are those that stand with them
pub named_numbers : {S : Type 0} (number : S → ℕ) (count : ℕ) (names : List (List ℕ)) (flops : List (Bor (List ℕ) × ℕ × S)) → AreNamed number count names flops → map number (map (λ f. f.2) flops) ≡ map (λ f. f.1) flops
named_numbers number count names [] all = refl
named_numbers {S} number count names (f ∷ flops) all =
    let P : Bor (List ℕ) × ℕ × S → Type 0 = λ x. (number x.2 < count) × (number x.2 ≡ x.1) × (name_of names x.1 ≡ x.0.now) in
    let rest = named_numbers number count names flops (All-tail P f flops all) in
    ap (λ (k : ℕ). k ∷ map number (map (λ x. x.2) flops)) (All-head P f flops all).1 ∙ ap (λ (ks : List ℕ). f.1 ∷ ks) rest
