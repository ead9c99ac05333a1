-- Serves specs/Due.antt: the sources among nodes that rise, each once.
use Rattle.std.proofs.Common.{◌≡◌, ◌≢◌, ◌↔◌, inl, inr, ℕ, ◌+◌, ◌<◌, List, [], ◌∷◌, ◌++◌, length, take, map, get_or, All, AllPairs, Contains, IsPermutation, eqb, sym, subst, ap, refl, ◌∙◌, arith}
use Rattle.std.specs.List.Sorted.{IsStrictlyIncreasing, IsNonDecreasing, IsNonDecreasingBy}
use Rattle.std.specs.Cmp.{unsigned_Decides, nat_eq_equiv}
use Rattle.std.proofs.lemmas.List.{take_more, length-take-le, get_or-take, get_or_default, map-append, length-map, get_or-map}
use Rattle.std.proofs.lemmas.Option.{slice_get_cases}
use Rattle.std.proofs.lemmas.List.Elements.{All-contains, All-push, All-head, All-tail, Contains-get_or, Contains-push, Contains-push_cases, Contains-append_left}
use Rattle.std.proofs.lemmas.List.Kept.{AllPairs-from_increasing}
use Rattle.std.proofs.lemmas.List.Quantifiers.{all_pairs_push}
use Rattle.std.proofs.lemmas.List.Sorted.{Contains-permutation, IsPermutation-sym, IsPermutation-map}
use Rattle.std.proofs.lemmas.Map.Keys.{IsStrictlyIncreasing-from_distinct, IsDistinct-IsPermutation}
use Rattle.std.proofs.lemmas.Map.Made.{IsDistinct-from_AllPairs}
use Rattle.net_view.specs.declared.gate.Gate.{Gate}
use Rattle.net_view.specs.declared.gate.Gate.TheVariants.{Const, Source, Not, And, Or, Xor, Pick, Lift}
use Rattle.net_view.specs.View.{Numbered, renumbered, IsGateAt, IsNet}
use Rattle.net_view.specs.Cone.{InCone, InCones, ReadsSource, Lists, itself, fan_in}
use Rattle.net_view.specs.Due.{Adds, IsSourceAmong}
use Rattle.net_view.proofs.ValuesLemmas.{some_is}
use Rattle.net_view.proofs.Members.{contains_none, All-from_contains}
use Rattle.net_view.proofs.ConeLemmas.{at_fan_in}

-- the sources among the nodes, no two alike
pub record Found (gates : List Numbered) (nodes keys : List ℕ) : Type 0 where
  pub each : (s : ℕ) → Contains keys s ↔ IsSourceAmong gates nodes s
  pub apart : AllPairs (λ a b. a ≢ b) keys

pub found_none : (gates : List Numbered) → Found gates [] []
found_none gates = record {
  each = λ s. (λ h. absurd (contains_none s h), λ h. absurd (contains_none h.0 h.1));
  apart = λ i j d lt within. absurd (omega arith);
}

-- a node is above all before it
low_before : (nodes : List ℕ) (i : ℕ) → IsStrictlyIncreasing nodes → i < length nodes → Contains (take i nodes) (get_or nodes i 0) → ⊥
low_before nodes i rising lt h =
    let k-lt : h.0 < i = let bound = h.1 in omega (arith, length-take-le i nodes (omega arith)) in
    let here : get_or nodes h.0 (get_or nodes i 0) ≡ get_or nodes i 0 = sym (get_or-take i nodes h.0 (get_or nodes i 0) k-lt) ∙ h.2 in
    let up = AllPairs-from_increasing nodes rising h.0 i (get_or nodes i 0) k-lt lt in
    let top : get_or nodes i (get_or nodes i 0) ≡ get_or nodes i 0 = get_or_default nodes i (get_or nodes i 0) 0 lt in
    absurd (omega (arith, here, top, up))

-- a node that is a source
pub found_source : (gates : List Numbered) (count : ℕ) (nodes keys : List ℕ) (i s : ℕ) → IsNet gates count → IsStrictlyIncreasing nodes → i < length nodes → Found gates (take i nodes) keys
    → IsGateAt gates (get_or nodes i 0) (Source s) → Found gates (take (i + 1) nodes) (keys ++ s ∷ [])
found_source gates count nodes keys i s net rising lt before is =
    let n = get_or nodes i 0 in
    let more = take_more nodes i 0 lt in
    record {
      each = λ t. (
        λ h. elim (Contains-push_cases keys s t h) [
          | inl old ↦
              let among = (before.each t).0 old in
              (among.0, subst (λ (zs : List ℕ). Contains zs among.0) (sym more) (Contains-append_left (take i nodes) (n ∷ []) among.0 among.1), among.2)
          | inr here ↦ (n, subst (λ (zs : List ℕ). Contains zs n) (sym more) (Contains-push (take i nodes) n), subst (λ (z : ℕ). IsGateAt gates n (Source z)) here is)
        ],
        λ h. elim (Contains-push_cases (take i nodes) n h.0 (subst (λ (zs : List ℕ). Contains zs h.0) more h.1)) [
          | inl old ↦ Contains-append_left keys (s ∷ []) t ((before.each t).1 (h.0, old, h.2))
          | inr here ↦
              let same : Source s ≡ Source t = some_is (Source s) (Source t) (sym is ∙ subst (λ (z : ℕ). IsGateAt gates z (Source t)) (sym here) h.2) in
              let s-is : s ≡ t = cc in
              subst (λ (z : ℕ). Contains (keys ++ s ∷ []) z) s-is (Contains-push keys s)
        ],
      );
      apart = all_pairs_push (λ a b. a ≢ b) keys s before.apart
          (λ k d within same.
          let among = (before.each s).0 (subst (λ (z : ℕ). Contains keys z) same (Contains-get_or keys k d within)) in
          let m-is : among.0 ≡ n = net.once among.0 n s among.2 is in
          low_before nodes i rising lt (subst (λ (z : ℕ). Contains (take i nodes) z) m-is among.1));
    }

-- a node that is none
pub found_other : (gates : List Numbered) (nodes keys : List ℕ) (i : ℕ) (g : Numbered) → i < length nodes → Found gates (take i nodes) keys → IsGateAt gates (get_or nodes i 0) g
    → ((s : ℕ) → g ≢ Source s) → Found gates (take (i + 1) nodes) keys
found_other gates nodes keys i g lt before is none =
    let n = get_or nodes i 0 in
    let more = take_more nodes i 0 lt in
    record {
      each = λ t. (
        λ h.
            let among = (before.each t).0 h in
            (among.0, subst (λ (zs : List ℕ). Contains zs among.0) (sym more) (Contains-append_left (take i nodes) (n ∷ []) among.0 among.1), among.2),
        λ h. elim (Contains-push_cases (take i nodes) n h.0 (subst (λ (zs : List ℕ). Contains zs h.0) more h.1)) [
          | inl old ↦ (before.each t).1 (h.0, old, h.2)
          | inr here ↦ absurd (none t (some_is g (Source t) (sym is ∙ subst (λ (z : ℕ). IsGateAt gates z (Source t)) (sym here) h.2)))
        ],
      );
      apart = before.apart;
    }

-- sorted, they rise
pub found_sorted : (gates : List Numbered) (nodes keys sorted : List ℕ) → Found gates nodes keys → IsPermutation keys sorted → IsNonDecreasing sorted → Lists (IsSourceAmong gates nodes) sorted
found_sorted gates nodes keys sorted found moved up = record {
  ascending = IsStrictlyIncreasing-from_distinct sorted up (IsDistinct-IsPermutation eqb (λ x y. nat_eq_equiv.symm x y) keys sorted moved (IsDistinct-from_AllPairs unsigned_Decides keys found.apart));
  whole = λ s. (
    λ h. (found.each s).0 (Contains-permutation sorted keys s (IsPermutation-sym keys sorted moved) h),
    λ h. Contains-permutation keys sorted s moved ((found.each s).1 h),
  );
}

-- a gate that is no source is none by number
pub still_none : {N S : Type 0} (number : N → ℕ) (source_number : S → ℕ) (g : Gate N S) → ((s : S) → g ≢ Source s) → (s : ℕ) → renumbered number source_number g ≢ Source s
still_none number source_number (Source x) none s e = none x refl
still_none number source_number (Const b) none s e = cc
still_none number source_number (Not a) none s e = cc
still_none number source_number (And a b) none s e = cc
still_none number source_number (Or a b) none s e = cc
still_none number source_number (Xor a b) none s e = cc
still_none number source_number (Pick c a b) none s e = cc
still_none number source_number (Lift c a b) none s e = cc

-- what a node reads is inside the net
in_cone_inside : (gates : List Numbered) (count root k : ℕ) → IsNet gates count → root < length gates → InCone gates root k → k < length gates
in_cone_inside gates count root k net inside itself = inside
in_cone_inside gates count root k net inside (fan_in i _ g up is reads) =
    let i-in = in_cone_inside gates count root i net inside up in
    let low : k < i = at_fan_in (λ j. j < i) (λ s. s < count) g k (net.lower i g is) reads in
    omega arith

pub cones_inside : (gates : List Numbered) (count : ℕ) (roots found : List ℕ) → IsNet gates count → All (λ r. r < length gates) roots → Lists (InCones gates roots) found → All (λ n. n < length gates) found
cones_inside gates count roots found net all lists =
    All-from_contains (λ n. n < length gates) found
    (λ n h. let in-cone = (lists.whole n).0 h in in_cone_inside gates count in-cone.0 n net (All-contains (λ r. r < length gates) roots in-cone.0 all in-cone.1) in-cone.2)

-- lists of one and the same kind
pub lists_same : (P Q : ℕ → Type 0) (found : List ℕ) → ((n : ℕ) → P n ↔ Q n) → Lists P found → Lists Q found
lists_same P Q found same lists = record {
  ascending = lists.ascending;
  whole = λ n. (λ h. (same n).0 ((lists.whole n).0 h), λ q. (lists.whole n).1 ((same n).1 q));
}

-- the sources among the nodes of a cone are those that its root reads
pub cone_sources : (gates : List Numbered) (root : ℕ) (roots nodes keys : List ℕ) → Adds (λ j. j ≡ root) [] roots → Lists (InCones gates roots) nodes → Lists (IsSourceAmong gates nodes) keys
    → Lists (ReadsSource gates root) keys
cone_sources gates root roots nodes keys one in-cones among =
    lists_same (IsSourceAmong gates nodes) (ReadsSource gates root) keys
    (λ s. (
      λ h.
          let up = (in-cones.whole h.0).0 h.1 in
          let is : up.0 ≡ root = elim ((one.each up.0).0 up.1) [ inl e ↦ e | inr none ↦ absurd (contains_none up.0 none) ] in
          (h.0, subst (λ (r : ℕ). InCone gates r h.0) is up.2, h.2),
      λ h. (h.0, (in-cones.whole h.0).1 (root, (one.each root).1 (inl refl), h.1), h.2),
    ))
    among

-- a pair's number is its source's
pub pairs_push : {S : Type 0} (number : S → ℕ) (pairs : List (ℕ × S)) (k : ℕ) (s : S) → k ≡ number s → All (λ p. p.0 ≡ number p.1) pairs → All (λ p. p.0 ≡ number p.1) (pairs ++ (k, s) ∷ [])
pairs_push number pairs k s is all = All-push (λ p. p.0 ≡ number p.1) pairs (k, s) all is

-- the numbers of the pairs, with one more
pub keys_push : {S : Type 0} (pairs : List (ℕ × S)) (k : ℕ) (s : S) → map (λ p. p.0) (pairs ++ (k, s) ∷ []) ≡ map (λ p. p.0) pairs ++ k ∷ []
keys_push pairs k s = map-append (λ p. p.0) pairs ((k, s) ∷ [])

-- the numbers of the sources are those of the pairs
pub sources_numbers : {S : Type 0} (number : S → ℕ) (pairs : List (ℕ × S)) → All (λ p. p.0 ≡ number p.1) pairs → map number (map (λ p. p.1) pairs) ≡ map (λ p. p.0) pairs
sources_numbers number [] all = refl
sources_numbers number (p ∷ pairs) all =
    let here : p.0 ≡ number p.1 = All-head (λ q. q.0 ≡ number q.1) p pairs all in
    let rest = sources_numbers number pairs (All-tail (λ q. q.0 ≡ number q.1) p pairs all) in
    ap (λ (k : ℕ). k ∷ map number (map (λ q. q.1) pairs)) (sym here) ∙ ap (λ (ks : List ℕ). p.0 ∷ ks) rest

-- sorted by their numbers, the pairs have the sources
pub pairs_sorted : {S : Type 0} (gates : List Numbered) (nodes : List ℕ) (pairs sorted : List (ℕ × S)) → Found gates nodes (map (λ p. p.0) pairs) → IsPermutation pairs sorted → IsNonDecreasingBy (λ p. p.0) sorted
    → Lists (IsSourceAmong gates nodes) (map (λ p. p.0) sorted)
pairs_sorted gates nodes pairs sorted found moved up =
    found_sorted gates nodes (map (λ p. p.0) pairs) (map (λ p. p.0) sorted) found (IsPermutation-map (λ p. p.0) pairs sorted moved)
    (λ i j d le lt.
    let j-in : j < length sorted = omega (arith, length-map sorted (λ p. p.0)) in
    elim (slice_get_cases sorted j).1 [
      | inl here ↦
          rw (get_or-map (λ p. p.0) sorted i here.0 d (omega arith), get_or-map (λ p. p.0) sorted j here.0 d j-in) (up i j here.0 le j-in)
      | inr past ↦ absurd (omega (arith, past.0))
    ])
