-- Serves specs/PinOrder.antt: an order of places in a list is one of what stands there.
use Rattle.std.proofs.Common.{◌≡◌, ◌≢◌, ◌↔◌, ◌⊎◌, inl, inr, ℕ, ◌+◌, ◌<◌, ◌≤◌, List, [], ◌∷◌, ◌++◌, length, get_or, map, All, AllPairs, Contains, Option, Some, None, sym, subst, ap, refl, ◌∙◌, arith}
use Rattle.std.specs.Prelude.{slice_index, slice_index_or}
use Rattle.std.proofs.lemmas.Bool.{cases_lt}
use Rattle.std.proofs.lemmas.List.{length-map, get_or-map, map-append, get_or_past}
use Rattle.std.proofs.lemmas.List.Elements.{Contains-get_or, Contains-push_cases, All-contains}
use Rattle.net_view.specs.LeastFirst.{IsReady, IsNext, IsOrderAfter, IsLeastFirst, IsPathTo, IsLoop}
use Rattle.net_view.specs.Queue.{Needs, IsListing, IsCycle}
use Rattle.net_view.specs.View.{Numbered}
use Rattle.net_view.specs.FlopNet.{Kind}
use Rattle.net_view.specs.Cone.{ReadsSource}
use Rattle.net_view.specs.PinOrder.{IsFlop, DependsOn, IsNamedBefore, IsPinOrder, IsPinLoop}
use Rattle.net_view.specs.Places.{IsNamedInOrder, IsPlaced, HaveNeeds}
use Rattle.net_view.proofs.OrderLemmas.{named_once, no_loop}
use Rattle.net_view.proofs.Members.{contains_none, contains_head, contains_behind, contains_cases, contains_at, All-from_contains}

-- what maps to an element
pub map_contains : {X : Type 0} (at : X → ℕ) (xs : List X) (x : X) → Contains xs x → Contains (map at xs) (at x)
map_contains at xs x h =
    (h.0, omega (arith, h.1, length-map xs at), get_or-map at xs h.0 x (at x) h.1 ∙ ap at h.2)

pub contains_map : (at : ℕ → ℕ) (xs : List ℕ) (m : ℕ) → Contains (map at xs) m → (k : ℕ) × Contains xs k × (at k ≡ m)
contains_map at xs m h =
    let lt : h.0 < length xs = omega (arith, h.1, length-map xs at) in
    (get_or xs h.0 0, Contains-get_or xs h.0 0 lt, sym (get_or-map at xs h.0 0 m lt) ∙ h.2)

-- places in name order of all members
pub record Carries (Member : ℕ → Type 0) (Depends Before : ℕ → ℕ → Type 0) (needs : List (List ℕ)) (at : ℕ → ℕ) : Type 0 where
  pub member : (i : ℕ) → i < length needs → Member (at i)
  pub found : (s : ℕ) → Member s → (i : ℕ) × (i < length needs) × (at i ≡ s)
  pub down : (i j : ℕ) → Needs needs i j → ((i < length needs) × (j < length needs)) × Depends (at i) (at j)
  pub up : (i j : ℕ) → i < length needs → j < length needs → Depends (at i) (at j) → Needs needs i j
  pub depends : (s t : ℕ) → Depends s t → Member t
  pub ordered : (i j : ℕ) → i < j → j < length needs → Before (at i) (at j)
  pub once : (i j : ℕ) → i < length needs → j < length needs → at i ≡ at j → i ≡ j

module _ (Member : ℕ → Type 0) (Depends Before : ℕ → ℕ → Type 0) (needs : List (List ℕ)) (at : ℕ → ℕ) (c : Carries Member Depends Before needs at) where
  -- what stands in the list stands there by place
  back : (listed : List ℕ) (i : ℕ) → All (λ k. k < length needs) listed → i < length needs → Contains (map at listed) (at i) → Contains listed i
  back listed i inside lt h =
      let there = contains_map at listed (at i) h in
      let k-in : there.0 < length needs = All-contains (λ k. k < length needs) listed there.0 inside there.1 in
      subst (λ (z : ℕ). Contains listed z) (c.once there.0 i k-in lt there.2) there.1

  ready_down : (listed : List ℕ) (i : ℕ) → All (λ k. k < length needs) listed → i < length needs → IsReady Member Depends Before (map at listed) (at i) → IsReady (λ n. n < length needs) (Needs needs) ◌<◌ listed i
  ready_down listed i inside lt r = record {
    member = lt;
    unlisted = λ h. r.unlisted (map_contains at listed i h);
    free = λ k need. let d = c.down i k need in back listed k inside d.0.1 (r.free (at k) d.1);
  }

  ready_up : (listed : List ℕ) (i : ℕ) → All (λ k. k < length needs) listed → IsReady (λ n. n < length needs) (Needs needs) ◌<◌ listed i → IsReady Member Depends Before (map at listed) (at i)
  ready_up listed i inside r = record {
    member = c.member i r.member;
    unlisted = λ h. r.unlisted (back listed i inside r.member h);
    free = λ m dep.
        let j = c.found m (c.depends (at i) m dep) in
        let need = c.up i j.0 r.member j.1 (subst (λ (z : ℕ). Depends (at i) z) (sym j.2) dep) in
        subst (λ (z : ℕ). Contains (map at listed) z) j.2 (map_contains at listed j.0 (r.free j.0 need));
  }

  next_up : (listed : List ℕ) (i : ℕ) → All (λ k. k < length needs) listed → IsNext (λ n. n < length needs) (Needs needs) ◌<◌ listed i → IsNext Member Depends Before (map at listed) (at i)
  next_up listed i inside next = record {
    ready = ready_up listed i inside next.ready;
    first = λ m r.
        let j = c.found m r.member in
        let low = ready_down listed j.0 inside j.1 (subst (λ (z : ℕ). IsReady Member Depends Before (map at listed) z) (sym j.2) r) in
        elim (next.first j.0 low) [
          | inl same ↦ inl (sym j.2 ∙ ap at same)
          | inr after ↦ inr (subst (λ (z : ℕ). Before (at i) z) j.2 (c.ordered i j.0 after j.1))
        ];
  }

  order_up : (listed rest : List ℕ) → All (λ k. k < length needs) listed → IsOrderAfter (λ n. n < length needs) (Needs needs) ◌<◌ listed rest → IsOrderAfter Member Depends Before (map at listed) (map at rest)
  order_up listed [] inside h = λ s member.
      let i = c.found s member in
      subst (λ (z : ℕ). Contains (map at listed) z) i.2 (map_contains at listed i.0 (h i.0 i.1))
  order_up listed (n ∷ rest) inside h =
      let more : All (λ k. k < length needs) (listed ++ n ∷ []) = All-from_contains (λ k. k < length needs) (listed ++ n ∷ [])
      (λ k in-more. elim (Contains-push_cases listed n k in-more) [
        | inl old ↦ All-contains (λ k. k < length needs) listed k inside old
        | inr e ↦ subst (λ (z : ℕ). z < length needs) e h.0.ready.member
      ]) in
      (next_up listed n inside h.0, subst (λ (zs : List ℕ). IsOrderAfter Member Depends Before zs (map at rest)) (map-append at listed (n ∷ [])) (order_up (listed ++ n ∷ []) rest more h.1))

  pub listing_up : (order : List ℕ) → IsListing needs order → IsLeastFirst Member Depends Before (map at order)
  listing_up order h = order_up [] order (All-from_contains (λ k. k < length needs) [] (λ k none. absurd (contains_none k none))) h

  path_up : (end : ℕ) (xs : List ℕ) → IsPathTo (λ n. n < length needs) (Needs needs) ◌<◌ end xs → IsPathTo Member Depends Before (at end) (map at xs)
  path_up end [] path = path
  path_up end (n ∷ []) path = (c.down n end path).1
  path_up end (n ∷ m ∷ rest) path = ((c.down n m path.0).1, path_up end (m ∷ rest) path.1)

  path_inside : (end : ℕ) (xs : List ℕ) → IsPathTo (λ n. n < length needs) (Needs needs) ◌<◌ end xs → (k : ℕ) → Contains xs k → k < length needs
  path_inside end [] path k h = absurd path
  path_inside end (n ∷ []) path k h = elim (contains_cases n k [] h) [
    | inl e ↦ subst (λ (z : ℕ). z < length needs) (sym e) (c.down n end path).0.0
    | inr none ↦ absurd (contains_none k none)
  ]
  path_inside end (n ∷ m ∷ rest) path k h = elim (contains_cases n k (m ∷ rest) h) [
    | inl e ↦ subst (λ (z : ℕ). z < length needs) (sym e) (c.down n m path.0).0.0
    | inr there ↦ path_inside end (m ∷ rest) path.1 k there
  ]

  apart_up : (xs : List ℕ) → ((k : ℕ) → Contains xs k → k < length needs) → AllPairs (λ a b. a ≢ b) xs → AllPairs (λ a b. a ≢ b) (map at xs)
  apart_up xs inside apart i j d lt within same =
      let j-in : j < length xs = omega (arith, length-map xs at) in
      let i-in : i < length xs = omega arith in
      let a = get_or xs i 0 in
      let b = get_or xs j 0 in
      let here : at a ≡ at b = sym (get_or-map at xs i 0 d i-in) ∙ same ∙ get_or-map at xs j 0 d j-in in
      apart i j 0 lt j-in (c.once a b (inside a (Contains-get_or xs i 0 i-in)) (inside b (Contains-get_or xs j 0 j-in)) here)

  pub cycle_inside : (cycle : List ℕ) → IsCycle needs cycle → All (λ k. k < length needs) cycle
  cycle_inside [] h = absurd h
  cycle_inside (n ∷ rest) h = All-from_contains (λ k. k < length needs) (n ∷ rest) (path_inside n (n ∷ rest) h.0)

  pub cycle_up : (cycle : List ℕ) → IsCycle needs cycle → IsLoop Member Depends Before (map at cycle)
  cycle_up [] h = h
  cycle_up (n ∷ rest) h =
      let inside = path_inside n (n ∷ rest) h.0 in (
        path_up n (n ∷ rest) h.0,
        apart_up (n ∷ rest) inside h.1,
        λ m there.
            let k = contains_map at rest m there in
            subst (λ (z : ℕ). Before (at n) z) k.2 (c.ordered n k.0 (h.2 k.0 k.1) (inside k.0 (contains_behind n k.0 rest k.1))),
      )

-- a whole order has items alone
order_inside : (needs : List (List ℕ)) (listed rest : List ℕ) → IsOrderAfter (λ n. n < length needs) (Needs needs) ◌<◌ listed rest → (k : ℕ) → Contains rest k → k < length needs
order_inside needs listed [] h k there = absurd (contains_none k there)
order_inside needs listed (n ∷ rest) h k there = elim (contains_cases n k rest there) [
  | inl e ↦ subst (λ (z : ℕ). z < length needs) (sym e) h.0.ready.member
  | inr later ↦ order_inside needs (listed ++ n ∷ []) rest h.1 k later
]

pub listing_inside : (needs : List (List ℕ)) (order : List ℕ) → IsListing needs order → All (λ k. k < length needs) order
listing_inside needs order h = All-from_contains (λ k. k < length needs) order (order_inside needs [] order h)

-- what a source's place is
place_cases : (o : Option ℕ) → ((k : ℕ) × (o ≡ Some k)) ⊎ (o ≡ None)
place_cases None = inr refl
place_cases (Some k) = inl (k, refl)

-- beyond the list nothing is needed
needs_inside : (needs : List (List ℕ)) (i j : ℕ) → Needs needs i j → i < length needs
needs_inside needs i j h = elim (cases_lt i (length needs)) [
  | inl lt ↦ lt
  | inr ge ↦ absurd (contains_none j (subst (λ (zs : List ℕ). Contains zs j) (get_or_past needs i [] ge) h))
]

-- no flop stands at two places
place_once : (names : List (List ℕ)) (kinds : List Kind) (flops : List ℕ) (i j : ℕ) → IsNamedInOrder names kinds flops → i < length flops → j < length flops → slice_index flops i ≡ slice_index flops j → i ≡ j
place_once names kinds flops i j order i-in j-in same = elim (cases_lt i j) [
  | inl lt ↦
      let before = subst (λ (z : ℕ). IsNamedBefore names z (slice_index flops j)) same (order.ordered i j lt j-in) in
      absurd (named_once names (slice_index flops j) (slice_index flops j) before before)
  | inr ge ↦ elim (cases_lt j i) [
    | inl gt ↦
        let before = subst (λ (z : ℕ). IsNamedBefore names (slice_index flops j) z) same (order.ordered j i gt i-in) in
        absurd (named_once names (slice_index flops j) (slice_index flops j) before before)
    | inr le ↦ omega arith
  ]
]

pub carries : (gates : List Numbered) (names : List (List ℕ)) (kinds : List Kind) (flops : List ℕ) (count : ℕ) (places : List (Option ℕ)) (needs : List (List ℕ)) → IsNamedInOrder names kinds flops → IsPlaced flops count places
    → HaveNeeds gates kinds places flops (length flops) needs → Carries (IsFlop kinds) (DependsOn gates kinds) (IsNamedBefore names) needs (slice_index flops)
carries gates names kinds flops count places needs order placed have =
    let len : length needs ≡ length flops = have.count_is in
    record {
      member = λ i lt. (order.whole (slice_index flops i)).0 (Contains-get_or flops i 0 (omega (arith, len)));
      found = λ s is.
          let at = contains_at flops s ((order.whole s).1 is) in
          (at.0, omega (arith, len, at.1), at.2);
      down = λ i j need.
          let i-in : i < length needs = needs_inside needs i j need in
          let n = (have.each i j (omega (arith, len))).0 need in
          let at = placed.some n.source j n.place in (
            (i-in, omega (arith, len, at.0)),
            record {
              flop = n.flop;
              is_flop = n.is_flop;
              pin = n.pin;
              has_pin = n.has_pin;
              reads = subst (λ (z : ℕ). ReadsSource gates n.pin z) (sym at.1) n.reads;
              other = (order.whole (slice_index flops j)).0 (Contains-get_or flops j 0 at.0);
            },
          );
      up = λ i j i-in j-in d. (have.each i j (omega (arith, len))).1 (record {
        flop = d.flop;
        is_flop = d.is_flop;
        pin = d.pin;
        has_pin = d.has_pin;
        source = slice_index flops j;
        reads = d.reads;
        place = elim (place_cases (slice_index_or places (slice_index flops j) None)) [
          | inr none ↦ absurd (placed.none (slice_index flops j) none (Contains-get_or flops j 0 (omega (arith, len))))
          | inl some ↦
              let at = placed.some (slice_index flops j) some.0 some.1 in
              let same : some.0 ≡ j = place_once names kinds flops some.0 j order at.0 (omega (arith, len)) at.1 in
              some.1 ∙ ap (λ (z : ℕ). Some z) same
        ];
      });
      depends = λ s t d. d.other;
      ordered = λ i j lt within. order.ordered i j lt (omega (arith, len));
      once = λ i j i-in j-in same. place_once names kinds flops i j order (omega (arith, len)) (omega (arith, len)) same;
    }

-- what is needed is in the list
pub needs_closed : (Member : ℕ → Type 0) (Depends Before : ℕ → ℕ → Type 0) (needs : List (List ℕ)) (at : ℕ → ℕ) → Carries Member Depends Before needs at → (i j : ℕ) → Needs needs i j → j < length needs
needs_closed Member Depends Before needs at c i j need = (c.down i j need).0.1

-- the whole order by place is the pin order, and then there is no loop
pub order_is : (gates : List Numbered) (names : List (List ℕ)) (kinds : List Kind) (at : ℕ → ℕ) (needs : List (List ℕ)) (order : List ℕ) → Carries (IsFlop kinds) (DependsOn gates kinds) (IsNamedBefore names) needs at → IsListing needs order
    → IsPinOrder gates names kinds (map at order) × ((loop : List ℕ) → IsPinLoop gates names kinds loop → ⊥)
order_is gates names kinds at needs order k listed =
    let up = listing_up (IsFlop kinds) (DependsOn gates kinds) (IsNamedBefore names) needs at k order listed in
    (up, λ loop is. no_loop (IsFlop kinds) (DependsOn gates kinds) (IsNamedBefore names) (λ n m d. (d.flop, d.is_flop)) (map at order) loop up is)

-- a cycle by place is a loop of pins
pub loop_is : (gates : List Numbered) (names : List (List ℕ)) (kinds : List Kind) (at : ℕ → ℕ) (needs : List (List ℕ)) (cycle : List ℕ) → Carries (IsFlop kinds) (DependsOn gates kinds) (IsNamedBefore names) needs at → IsCycle needs cycle
    → IsPinLoop gates names kinds (map at cycle)
loop_is gates names kinds at needs cycle k is = cycle_up (IsFlop kinds) (DependsOn gates kinds) (IsNamedBefore names) needs at k cycle is

-- what stands at places of the list is of the net
pub found_inside : {S : Type 0} (number : S → ℕ) (flops ids : List S) (cycle : List ℕ) (count : ℕ) → All (λ s. number s < count) flops → All (λ k. k < length flops) cycle → map number ids ≡ map (slice_index (map number flops)) cycle
    → All (λ s. number s < count) ids
found_inside number flops ids cycle count all low is i d lt =
    let x = number (get_or ids i d) in
    let in-ids : Contains (map number ids) x = map_contains number ids (get_or ids i d) (Contains-get_or ids i d lt) in
    let w = contains_map (slice_index (map number flops)) cycle x (subst (λ (zs : List ℕ). Contains zs x) is in-ids) in
    let w-in : w.0 < length flops = All-contains (λ k. k < length flops) cycle w.0 low w.1 in
    let e : slice_index (map number flops) w.0 ≡ number (get_or flops w.0 d) = get_or-map number flops w.0 d 0 w-in in
    subst (λ (z : ℕ). z < count) (sym e ∙ w.2) (all w.0 d w-in)

-- places of what has needs are places of the list
pub places_inside : (needs told : List (List ℕ)) (count : ℕ) (order : List ℕ) → All (λ k. k < length told) order → told ≡ needs → length needs ≡ count → All (λ k. k < count) order
places_inside needs told count order all is len k d lt = let low = all k d lt in omega (arith, low, ap length is, len)
