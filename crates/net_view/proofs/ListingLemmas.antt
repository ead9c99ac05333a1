-- Serves specs/Queue.antt: listing an item, the queue at its start and at its end.
use Rattle.std.proofs.Common.{◌≡◌, ◌≢◌, ◌⊎◌, inl, inr, ℕ, ◌<◌, ◌≤◌, Bool, true, false, List, [], ◌∷◌, ◌++◌, length, get_or, set, take, replicate, All, Contains, IsPermutation, sym, subst, ap, refl, ◌∙◌, arith, get_or-set_other, get_or-set_same, length-set, append_assoc}
use Rattle.std.specs.Prelude.{slice_index, slice_index_or}
use Rattle.std.specs.List.{range_with_len}
use Rattle.std.proofs.lemmas.Bool.{cases_lt}
use Rattle.std.proofs.lemmas.List.{get_or_append_left, get_or_push, length-append, take-append-le, take_all, get_or-replicate, get_or_past, get_or_at, get_or_default, get_or-take, length-replicate, length-take-le, append-nil}
use Rattle.std.proofs.lemmas.List.Elements.{Contains-get_or, Contains-push, Contains-push_cases, Contains-append_left, All-contains}
use Rattle.std.proofs.lemmas.List.Sorted.{IsPermutation-sym}
use Rattle.net_view.specs.LeastFirst.{IsNext, IsOrderAfter}
use Rattle.net_view.specs.Queue.{needs_of, Needs, need_at, is_marked, IsQueue, Nexts, IsListing, IsStuck}
use Rattle.net_view.proofs.Members.{contains_none, contains_at, adds_one, All-from_contains}
use Rattle.net_view.proofs.QueueLemmas.{apart_short, range_has, range_below, unmarked, head_apart, tail_apart, same_or_not, apart_moved, not_both}

-- the least ready item is listed
pub list_least : (needs : List (List ℕ)) (at : List ℕ) (waiting : List (List ℕ)) (queued listed : List Bool) (ready rest order : List ℕ) (f : ℕ) → IsPermutation ready (f ∷ rest)
    → IsQueue needs at waiting queued listed ready order [] → IsQueue needs at (set waiting f []) queued (set listed f true) rest (order ++ f ∷ []) (slice_index_or waiting f [])
list_least needs at waiting queued listed ready rest order f moved q =
    let adds = adds_one f rest ready (IsPermutation-sym ready (f ∷ rest) moved) in
    let f-ready : Contains ready f = (adds.each f).1 (inl refl) in
    let f-in : f < length needs = q.inside f (inl (inl f-ready)) in
    let order' = order ++ f ∷ [] in
    let waiting' = set waiting f [] in
    let f-waiting : f < length waiting = omega (arith, q.waiting_len) in
    let f-listed : f < length listed = omega (arith, q.listed_len) in
    let to : (x : ℕ) → Contains order x → Contains order' x = λ x h. Contains-append_left order (f ∷ []) x h in
    let f-order : Contains order' f = Contains-push order f in
    let queue-to : (x : ℕ) → Contains ready x ⊎ Contains order x → Contains rest x ⊎ Contains order' x = λ x h. elim h [
      | inl r ↦ elim ((adds.each x).0 r) [ inl e ↦ inr (subst (λ (z : ℕ). Contains order' z) (sym e) f-order) | inr s ↦ inl s ]
      | inr o ↦ inr (to x o)
    ] in
    let queue-from : (x : ℕ) → Contains rest x ⊎ Contains order' x → Contains ready x ⊎ Contains order x = λ x h. elim h [
      | inl s ↦ inl ((adds.each x).1 (inr s))
      | inr o ↦ elim (Contains-push_cases order f x o) [ inl old ↦ inr old | inr e ↦ inl (subst (λ (z : ℕ). Contains ready z) e f-ready) ]
    ] in
    let distinct = apart_moved ready (f ∷ rest) moved q.once in
    let f-apart : (x : ℕ) → Contains rest x → f ≢ x = λ x s e. head_apart f x rest distinct s e in
    record {
      at_len = q.at_len;
      waiting_len = length-set waiting f [] ∙ q.waiting_len;
      queued_len = q.queued_len;
      listed_len = length-set listed f true ∙ q.listed_len;
      listed_is = λ x. elim (same_or_not x f) [
        | inl e ↦ (λ h. subst (λ (z : ℕ). Contains order' z) (sym e) f-order, λ h. subst (λ (z : ℕ). is_marked (set listed f true) z ≡ true) (sym e) (get_or-set_same listed f true false f-listed))
        | inr ne ↦
            let same : is_marked (set listed f true) x ≡ is_marked listed x = get_or-set_other listed f x true false ne in (
              λ h. to x ((q.listed_is x).0 (sym same ∙ h)),
              λ h. same ∙ (q.listed_is x).1 (elim (Contains-push_cases order f x h) [ inl old ↦ old | inr e ↦ absurd (ne (sym e)) ]),
            )
      ];
      queued_is = λ x. (λ h. queue-to x ((q.queued_is x).0 h), λ h. (q.queued_is x).1 (queue-from x h));
      inside = λ x h. elim h [ inl in-queue ↦ q.inside x (inl (queue-from x in-queue)) | inr w ↦ q.waiting_inside f x w ];
      closed = q.closed;
      within = q.within;
      passed = λ x i lt. to (slice_index (needs_of needs x) i) (q.passed x i lt);
      done = λ x h. q.done x (queue-from x h);
      placed = λ x lt. elim (q.placed x lt) [
        | inl old ↦ elim old [ inl in-queue ↦ inl (inl (queue-to x in-queue)) | inr none ↦ absurd (contains_none x none) ]
        | inr waits ↦ elim (same_or_not (need_at needs at x) f) [
          | inl e ↦ inl (inr (subst (λ (g : ℕ). Contains (slice_index_or waiting g []) x) e waits.waits))
          | inr ne ↦ inr (record {
            before_end = waits.before_end;
            unlisted = λ h. elim (Contains-push_cases order f (need_at needs at x) h) [ inl old ↦ waits.unlisted old | inr e ↦ ne (sym e) ];
            waits = subst (λ (r : List ℕ). Contains r x) (sym (get_or-set_other waiting f (need_at needs at x) [] [] ne)) waits.waits;
          })
        ]
      ];
      waiting_inside = λ g x w. elim (same_or_not g f) [
        | inl e ↦ absurd (contains_none x (subst (λ (r : List ℕ). Contains r x) (ap (λ (z : ℕ). slice_index_or waiting' z []) e ∙ get_or-set_same waiting f [] [] f-waiting) w))
        | inr ne ↦ q.waiting_inside g x (subst (λ (r : List ℕ). Contains r x) (get_or-set_other waiting f g [] [] ne) w)
      ];
      apart = λ x s o. elim (Contains-push_cases order f x o) [ inl old ↦ q.apart x ((adds.each x).1 (inr s)) old | inr e ↦ f-apart x s e ];
      once = tail_apart f rest distinct;
    }

-- it is the next
pub next_least : (needs : List (List ℕ)) (at : List ℕ) (waiting : List (List ℕ)) (queued listed : List Bool) (ready rest order : List ℕ) (f : ℕ) → IsPermutation ready (f ∷ rest) → All (λ y. f ≤ y) rest
    → IsQueue needs at waiting queued listed ready order [] → IsNext (λ n. n < length needs) (Needs needs) ◌<◌ order f
next_least needs at waiting queued listed ready rest order f moved low q =
    let adds = adds_one f rest ready (IsPermutation-sym ready (f ∷ rest) moved) in
    let f-ready : Contains ready f = (adds.each f).1 (inl refl) in
    record {
      ready = record {
        member = q.inside f (inl (inl f-ready));
        unlisted = q.apart f f-ready;
        free = λ m h.
            let there = contains_at (needs_of needs f) m h in
            subst (λ (z : ℕ). Contains order z) there.2 (q.passed f there.0 (subst (λ (n : ℕ). there.0 < n) (sym (q.done f (inl f-ready))) there.1));
      };
      first = λ m h. elim (q.placed m h.member) [
        | inl old ↦ elim old [
          | inl in-queue ↦ elim in-queue [
            | inl r ↦ elim ((adds.each m).0 r) [
              | inl e ↦ inl e
              | inr s ↦ let le = All-contains (λ y. f ≤ y) rest m low s in elim (same_or_not m f) [ inl e ↦ inl e | inr ne ↦ inr (omega arith) ]
            ]
            | inr o ↦ absurd (h.unlisted o)
          ]
          | inr none ↦ absurd (contains_none m none)
        ]
        | inr waits ↦ absurd (waits.unlisted (h.free (need_at needs at m) (Contains-get_or (needs_of needs m) (slice_index at m) 0 waits.before_end)))
      ];
    }

pub nexts_none : (needs : List (List ℕ)) → Nexts needs []
nexts_none needs = record { each = λ k lt. absurd (omega arith) }

pub nexts_more : (needs : List (List ℕ)) (order : List ℕ) (f : ℕ) → Nexts needs order → IsNext (λ n. n < length needs) (Needs needs) ◌<◌ order f → Nexts needs (order ++ f ∷ [])
nexts_more needs order f before next =
    let Next : List ℕ → ℕ → Type 0 = IsNext (λ n. n < length needs) (Needs needs) ◌<◌ in
    record {
      each = λ k lt. elim (cases_lt k (length order)) [
        | inl old ↦
            subst (λ (xs : List ℕ). Next xs (slice_index (order ++ f ∷ []) k)) (sym (take-append-le k order (f ∷ []) (omega arith)))
            (subst (λ (n : ℕ). Next (take k order) n) (sym (get_or_append_left order (f ∷ []) 0 k old)) (before.each k old))
        | inr new ↦
            let k-is : k ≡ length order = omega (arith, length-append order (f ∷ [])) in
            subst (λ (xs : List ℕ). Next xs (slice_index (order ++ f ∷ []) k)) (sym (take-append-le k order (f ∷ []) (omega arith) ∙ take_all k order (omega arith)))
            (subst (λ (n : ℕ). Next order n) (sym (get_or_push order f 0 k (sym k-is))) next)
      ];
    }

-- no mark is set at first
pub none_marked : (n f : ℕ) → is_marked (replicate n false) f ≡ true → ⊥
none_marked n f h = elim (cases_lt f n) [
  | inl lt ↦ not_both (is_marked (replicate n false) f) h (get_or-replicate n f false false lt)
  | inr ge ↦ not_both (is_marked (replicate n false) f) h (get_or_past (replicate n false) f false (omega (arith, length-replicate n false)))
]

-- no item has been looked at at first
none_passed : (n f : ℕ) → slice_index (replicate n 0) f ≡ 0
none_passed n f = elim (cases_lt f n) [
  | inl lt ↦ get_or-replicate n f 0 0 lt
  | inr ge ↦ get_or_past (replicate n 0) f 0 (omega (arith, length-replicate {A = ℕ} n 0))
]

-- all items are due at first
pub queue_start : (needs waiting : List (List ℕ)) → ((f g : ℕ) → Needs needs f g → g < length needs) → length waiting ≡ length needs → All (λ l. l ≡ []) waiting
    → IsQueue needs (replicate (length needs) 0) waiting (replicate (length needs) false) (replicate (length needs) false) [] [] (range_with_len 0 (length needs))
queue_start needs waiting closed len empty =
    let n = length needs in
    let nobody : (g x : ℕ) → Contains (slice_index_or waiting g []) x → ⊥ = λ g x h. elim (cases_lt g (length waiting)) [
      | inl lt ↦ contains_none x (subst (λ (r : List ℕ). Contains r x) (empty g [] lt) h)
      | inr ge ↦ contains_none x (subst (λ (r : List ℕ). Contains r x) (get_or_past waiting g [] ge) h)
    ] in
    let nowhere : (x : ℕ) → Contains [] x ⊎ Contains [] x → ⊥ = λ x h. elim h [ inl a ↦ contains_none x a | inr b ↦ contains_none x b ] in
    record {
      at_len = length-replicate {A = ℕ} n 0;
      waiting_len = len;
      queued_len = length-replicate n false;
      listed_len = length-replicate n false;
      listed_is = λ f. (λ h. absurd (none_marked n f h), λ h. absurd (contains_none f h));
      queued_is = λ f. (λ h. absurd (none_marked n f h), λ h. absurd (nowhere f h));
      inside = λ f h. elim h [ inl in-queue ↦ absurd (nowhere f in-queue) | inr d ↦ let low = range_below 0 n f d in omega arith ];
      closed = closed;
      within = λ f. subst (λ (k : ℕ). k ≤ length (needs_of needs f)) (sym (none_passed n f)) (omega arith);
      passed = λ f i lt. absurd (let none = none_passed n f in omega arith);
      done = λ f h. absurd (nowhere f h);
      placed = λ f lt. inl (inr (range_has 0 n f (omega arith) (omega arith)));
      waiting_inside = λ g f h. absurd (nobody g f h);
      apart = λ f h k. absurd (contains_none f h);
      once = λ i j d lt within. absurd (omega arith);
    }

-- no item is ready: what is listed is the whole order, if all are
order_after : (needs : List (List ℕ)) (order : List ℕ) → Nexts needs order → ((n : ℕ) → n < length needs → Contains order n) → (front rest : List ℕ) → front ++ rest ≡ order
    → IsOrderAfter (λ n. n < length needs) (Needs needs) ◌<◌ front rest
order_after needs order nexts all front [] parts = λ n lt. subst (λ (xs : List ℕ). Contains xs n) (sym parts ∙ append-nil front) (all n lt)
order_after needs order nexts all front (x ∷ rest) parts =
    let Next : List ℕ → ℕ → Type 0 = IsNext (λ n. n < length needs) (Needs needs) ◌<◌ in
    let lt : length front < length order = omega (arith, ap length parts, length-append front (x ∷ rest)) in
    let before : take (length front) order ≡ front =
    ap (take (length front)) (sym parts) ∙ take-append-le (length front) front (x ∷ rest) (omega arith) ∙ take_all (length front) front (omega arith) in
    let here : slice_index order (length front) ≡ x = ap (λ (xs : List ℕ). slice_index xs (length front)) (sym parts) ∙ get_or_at front x rest 0 (length front) refl in (
      subst (λ (xs : List ℕ). Next xs x) before (subst (λ (n : ℕ). Next (take (length front) order) n) here (nexts.each (length front) lt)),
      order_after needs order nexts all (front ++ x ∷ []) rest (append_assoc front (x ∷ []) rest ∙ parts),
    )

pub queue_listed : (needs : List (List ℕ)) (at : List ℕ) (waiting : List (List ℕ)) (queued listed : List Bool) (ready order : List ℕ) → Nexts needs order → IsQueue needs at waiting queued listed ready order []
    → ((f : ℕ) → f < length listed → is_marked listed f ≡ true) → IsListing needs order
queue_listed needs at waiting queued listed ready order nexts q all =
    order_after needs order nexts (λ n lt. (q.listed_is n).0 (all n (omega (arith, q.listed_len)))) [] order refl

-- no item is ready: those that aren't listed wait for one another
pub queue_stuck : (needs : List (List ℕ)) (at : List ℕ) (waiting : List (List ℕ)) (queued listed : List Bool) (ready order : List ℕ) → ready ≡ [] → IsQueue needs at waiting queued listed ready order []
    → IsStuck needs at listed
queue_stuck needs at waiting queued listed ready order none q = record {
  at_len = q.at_len;
  listed_len = q.listed_len;
  closed = q.closed;
  each = λ f lt free. elim (q.placed f lt) [
    | inl old ↦ elim old [
      | inl in-queue ↦ elim in-queue [
        | inl r ↦ absurd (contains_none f (subst (λ (xs : List ℕ). Contains xs f) none r))
        | inr o ↦ absurd (not_both (is_marked listed f) ((q.listed_is f).1 o) free)
      ]
      | inr d ↦ absurd (contains_none f d)
    ]
    | inr waits ↦ (waits.before_end, unmarked (is_marked listed (need_at needs at f)) (λ h. waits.unlisted ((q.listed_is (need_at needs at f)).0 h)))
  ];
}

-- an item is listed only while there are items left
pub listed_short : (needs : List (List ℕ)) (at : List ℕ) (waiting : List (List ℕ)) (queued listed : List Bool) (ready order due : List ℕ) → Nexts needs order → IsQueue needs at waiting queued listed ready order due
    → length order ≤ length needs
listed_short needs at waiting queued listed ready order due nexts q =
    apart_short order (length needs) (All-from_contains (λ n. n < length needs) order (λ n h. q.inside n (inl (inr h))))
    (λ i j d lt within e.
    let next = nexts.each j within in
    let e' : get_or order i 0 ≡ get_or order j 0 = get_or_default order i 0 d (omega arith) ∙ e ∙ get_or_default order j d 0 within in
    let there : Contains (take j order) (get_or order i 0) =
    subst (λ (n : ℕ). Contains (take j order) n) (get_or-take j order i 0 lt) (Contains-get_or (take j order) i 0 (omega (arith, length-take-le j order (omega arith)))) in
    next.ready.unlisted (subst (λ (n : ℕ). Contains (take j order) n) e' there))
