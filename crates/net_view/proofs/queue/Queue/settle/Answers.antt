use Rattle.std.proofs.Common.{◌≡◌, ◌<◌, ◌≤◌, ℕ, Bool, true, false, List, [], ◌∷◌, ◌++◌, length, map, get_or, set, All, Contains, inr, arith, sym, subst, ap, ◌∙◌, heap_items}
use Rattle.std.specs.Prelude.{slice_index, slice_index_or}
use Rattle.std.proofs.lemmas.List.{get_or_default}
use Rattle.std.proofs.lemmas.List.Sorted.{IsPermutation-map}
use Rattle.std.proofs.lemmas.List.Elements.{Contains-get_or}
use Rattle.net_view.specs.Queue.{needs_of, is_marked, IsQueue}
use Rattle.net_view.proofs.Members.{contains_head, All-from_contains}
use Rattle.net_view.proofs.QueueLemmas.{settle_again, settle_waits, settle_ready}
use Rattle.net_view.proofs.queue.Queue.settle.Goals as goal

pub index-requires : goal.index-requires
index-requires c =
    let q = c.requires.1.is in
    let f-in = q.inside c.args.f (inr (contains_head c.args.f c.requires.0)) in
    omega (arith, f-in, q.queued_len, c.args.self.now.queued.ok)

pub returns-then-index-clause-settled : goal.returns-then-index-clause-settled
returns-then-index-clause-settled c due q =
    let needs = c.args.self.now.needs.now in
    let f = c.args.f in
    let f-in : f < length needs = c.requires.1.is.inside f (inr (contains_head f c.requires.0)) in
    let queued = c.args.self.now.queued.items in
    let is : is_marked queued f ≡ true = get_or_default queued f false c.index.result.now (omega (arith, f-in, q.is.queued_len)) ∙ sym c.index.ensures ∙ c.if-index.true in
    record { heap = q.heap; nexts = q.nexts; is = settle_again _ _ _ _ _ _ _ due f is q.is }

pub bounds-self-f : goal.bounds-self-f
bounds-self-f c = c.requires.1.is.inside c.args.f (inr (contains_head c.args.f c.requires.0))

pub index-requires-2 : goal.index-requires-2
index-requires-2 c =
    let q = c.requires.1.is in
    let f-in = q.inside c.args.f (inr (contains_head c.args.f c.requires.0)) in
    omega (arith, f-in, q.at_len, c.args.self.now.at.ok)

pub next_unlisted-at-requires-clause-start : goal.next_unlisted-at-requires-clause-start
next_unlisted-at-requires-clause-start c =
    let needs = c.args.self.now.needs.now in
    let f = c.args.f in
    let f-in : f < length needs = c.requires.1.is.inside f (inr (contains_head f c.requires.0)) in
    let row-is : c.as_slice-needs.result.now ≡ needs_of needs f = c.as_slice-needs.ensures ∙ get_or_default needs f c.index-self-f.result [] f-in in
    let at-is : c.index-2.result.now ≡ slice_index c.args.self.now.at.items f =
    c.index-2.ensures ∙ get_or_default c.args.self.now.at.items f c.index-2.result.now 0 (omega (arith, f-in, c.requires.1.is.at_len)) in
    rw (row-is, at-is) (c.requires.1.is.within f)

pub next_unlisted-at-requires-clause-inside : goal.next_unlisted-at-requires-clause-inside
next_unlisted-at-requires-clause-inside c =
    let needs = c.args.self.now.needs.now in
    let f = c.args.f in
    let f-in : f < length needs = c.requires.1.is.inside f (inr (contains_head f c.requires.0)) in
    let row-is : c.as_slice-needs.result.now ≡ needs_of needs f = c.as_slice-needs.ensures ∙ get_or_default needs f c.index-self-f.result [] f-in in
    let count : length c.deref.result.now ≡ length needs = ap length c.deref.ensures.value ∙ c.requires.1.is.listed_len in
    subst (λ (n : ℕ). All (λ g. g < n) c.as_slice-needs.result.now) (sym count)
    (subst (λ (row : List ℕ). All (λ g. g < length needs) row) (sym row-is) (All-from_contains (λ g. g < length needs) (needs_of needs f) (λ g h. c.requires.1.is.closed f g h)))

pub index_mut-requires : goal.index_mut-requires
index_mut-requires c =
    let q = c.requires.1.is in
    let f-in = q.inside c.args.f (inr (contains_head c.args.f c.requires.0)) in
    omega (arith, f-in, q.at_len, c.args.self.now.at.ok)

pub index_mut-requires-then-at-needs : goal.index_mut-requires-then-at-needs
index_mut-requires-then-at-needs c =
    let needs = c.args.self.now.needs.now in
    let f = c.args.f in
    let f-in : f < length needs = c.requires.1.is.inside f (inr (contains_head f c.requires.0)) in
    let row-is : c.as_slice-needs.result.now ≡ needs_of needs f = c.as_slice-needs.ensures ∙ get_or_default needs f c.index-self-f.result [] f-in in
    let there = Contains-get_or c.as_slice-needs.result.now c.next_unlisted-at.result 0 c.if-at-needs.true in
    let g-in = c.requires.1.is.closed f (get_or c.as_slice-needs.result.now c.next_unlisted-at.result 0) (subst (λ (row : List ℕ). Contains row (get_or c.as_slice-needs.result.now c.next_unlisted-at.result 0)) row-is there) in
    omega (arith, g-in, c.requires.1.is.waiting_len, c.args.self.now.waiting.ok)

pub index_mut-requires-else-at-needs : goal.index_mut-requires-else-at-needs
index_mut-requires-else-at-needs c =
    let q = c.requires.1.is in
    let f-in = q.inside c.args.f (inr (contains_head c.args.f c.requires.0)) in
    omega (arith, f-in, q.queued_len, c.args.self.now.queued.ok)

pub returns-in_ok-push-clause-settled : goal.returns-in_ok-push-clause-settled
returns-in_ok-push-clause-settled c due q =
    let needs = c.args.self.now.needs.now in
    let f = c.args.f in
    let f-in : f < length needs = c.requires.1.is.inside f (inr (contains_head f c.requires.0)) in
    let row-is : c.as_slice-needs.result.now ≡ needs_of needs f = c.as_slice-needs.ensures ∙ get_or_default needs f c.index-self-f.result [] f-in in
    let at-is : c.index-2.result.now ≡ slice_index c.args.self.now.at.items f =
    c.index-2.ensures ∙ get_or_default c.args.self.now.at.items f c.index-2.result.now 0 (omega (arith, f-in, c.requires.1.is.at_len)) in
    let free : is_marked c.args.self.now.queued.items f ≡ false =
    get_or_default c.args.self.now.queued.items f false c.index.result.now (omega (arith, f-in, q.is.queued_len)) ∙ sym c.index.ensures ∙ c.if-index.false in
    let i = c.next_unlisted-at.result in
    let listed = c.args.self.now.listed.items in
    let past : (k : ℕ) → slice_index c.args.self.now.at.items f ≤ k → k < i → is_marked listed (slice_index (needs_of needs f) k) ≡ true = λ k low high.
    subst (λ (marks : List Bool). is_marked marks (slice_index (needs_of needs f) k) ≡ true) c.deref.ensures.value
    (subst (λ (row : List ℕ). is_marked c.deref.result.now (slice_index row k) ≡ true) row-is (c.next_unlisted-at.ensures.passed k (subst (λ (n : ℕ). n ≤ k) (sym at-is) low) high)) in
    let waiting = c.args.self.now.waiting.items in
    let ready = map (λ r. r.0) (heap_items c.args.self.now.ready) in
    let g = slice_index (needs_of needs f) i in
    let i-in : i < length (needs_of needs f) = subst (λ (row : List ℕ). i < length row) row-is c.if-at-needs.true in
    let stop : is_marked listed g ≡ false =
    subst (λ (marks : List Bool). is_marked marks g ≡ false) c.deref.ensures.value (subst (λ (row : List ℕ). is_marked c.deref.result.now (slice_index row i) ≡ false) row-is (c.next_unlisted-at.ensures.stopped c.if-at-needs.true)) in
    let g-in : g < length waiting = let inside = q.is.closed f g (Contains-get_or (needs_of needs f) i 0 i-in) in omega (arith, inside, q.is.waiting_len) in
    let old : c.index_mut-then-at-needs.result.now ≡ slice_index_or waiting g [] =
    let x = c.index_mut-then-at-needs.result.now in
    c.index_mut-then-at-needs.ensures.value ∙ ap (λ (row : List ℕ). get_or waiting (get_or row i 0) x) row-is ∙ get_or_default waiting g x [] g-in in
    let grown : c.push.new.self ≡ slice_index_or waiting g [] ++ f ∷ [] = c.in_ok-push.ensures.ok ∙ ap (λ (r : List ℕ). r ++ f ∷ []) old in
    let settled = settle_waits _ _ waiting _ _ _ _ due f i f-in free i-in past stop q.is in
    record {
      heap = q.heap;
      nexts = q.nexts;
      is =
          subst (λ (row : List ℕ). IsQueue needs (set c.args.self.now.at.items f i) (set waiting (get_or row i 0) c.push.new.self) c.args.self.now.queued.items listed ready c.args.self.now.order.items due) (sym row-is)
          (subst (λ (new : List ℕ). IsQueue needs (set c.args.self.now.at.items f i) (set waiting g new) c.args.self.now.queued.items listed ready c.args.self.now.order.items due) (sym grown) settled);
    }

pub returns-in_ok-push-2-clause-settled : goal.returns-in_ok-push-2-clause-settled
returns-in_ok-push-2-clause-settled c due q =
    let needs = c.args.self.now.needs.now in
    let f = c.args.f in
    let f-in : f < length needs = c.requires.1.is.inside f (inr (contains_head f c.requires.0)) in
    let row-is : c.as_slice-needs.result.now ≡ needs_of needs f = c.as_slice-needs.ensures ∙ get_or_default needs f c.index-self-f.result [] f-in in
    let at-is : c.index-2.result.now ≡ slice_index c.args.self.now.at.items f =
    c.index-2.ensures ∙ get_or_default c.args.self.now.at.items f c.index-2.result.now 0 (omega (arith, f-in, c.requires.1.is.at_len)) in
    let free : is_marked c.args.self.now.queued.items f ≡ false =
    get_or_default c.args.self.now.queued.items f false c.index.result.now (omega (arith, f-in, q.is.queued_len)) ∙ sym c.index.ensures ∙ c.if-index.false in
    let i = c.next_unlisted-at.result in
    let listed = c.args.self.now.listed.items in
    let past : (k : ℕ) → slice_index c.args.self.now.at.items f ≤ k → k < i → is_marked listed (slice_index (needs_of needs f) k) ≡ true = λ k low high.
    subst (λ (marks : List Bool). is_marked marks (slice_index (needs_of needs f) k) ≡ true) c.deref.ensures.value
    (subst (λ (row : List ℕ). is_marked c.deref.result.now (slice_index row k) ≡ true) row-is (c.next_unlisted-at.ensures.passed k (subst (λ (n : ℕ). n ≤ k) (sym at-is) low) high)) in
    let end : i ≡ length (needs_of needs f) =
    let low = subst (λ (row : List ℕ). length row ≤ i) row-is c.if-at-needs.false in
    let high = subst (λ (row : List ℕ). i ≤ length row) row-is c.next_unlisted-at.ensures.within in
    omega arith in
    record {
      heap = c.in_ok-push-2.ensures.heap_order q.heap;
      nexts = q.nexts;
      is = settle_ready _ _ _ _ _ _ _ _ due f i f-in free end past (IsPermutation-map (λ r. r.0) _ _ c.in_ok-push-2.ensures.permutation) q.is;
    }
