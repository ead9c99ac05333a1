use Rattle.std.proofs.Common.{◌≡◌, ◌<◌, ◌+◌, ℕ, Bool, true, List, ◌∷◌, length, get_or, drop, map, ap, subst, ◌∙◌, arith, drop-cons, add-one}
use Rattle.net_view.specs.Queue.{is_marked}
use Rattle.net_view.specs.QueueOf.{QueueOf}
use Rattle.net_view.proofs.ListingLemmas.{queue_listed, queue_stuck, listed_short}
use Rattle.net_view.proofs.queue.least_first.Goals as goal

pub waiting-preserved : goal.waiting-preserved
waiting-preserved c =
    let all = c.as_slice-f-items.result.now in
    let i = c.waiting.f-index in
    let next : drop i all ≡ get_or all i 0 ∷ drop (i + 1) all = rw add-one (drop-cons all i 0 c.waiting-test.true) in
    record {
      queue = c.in_ok-settle.ensures.settled (drop (i + 1) all) (subst (λ (xs : List ℕ). QueueOf c.waiting.queue xs) next c.waiting.invariant.queue);
      same = c.in_ok-settle.ensures.needs ∙ c.waiting.invariant.same;
      order = c.in_ok-settle.ensures.order ∙ c.waiting.invariant.order;
    }

pub listing-smaller : goal.listing-smaller
listing-smaller c =
    let listed = rw c.in-Some.is at c.in_ok-waiting.ensures.next in
    let q = c.waiting.invariant.queue in
    let short = listed_short _ _ _ _ _ _ _ _ q.nexts q.is in
    omega (arith, short, listed.0, ap length c.waiting.invariant.order, ap length c.waiting.invariant.same)

pub find_cycle-requires-clause-stuck : goal.find_cycle-requires-clause-stuck
find_cycle-requires-clause-stuck c =
    let idle = rw c.in_default.is at c.in_ok-waiting.ensures.next in
    let same = c.in_ok-waiting.ensures.same ∙ c.listing.invariant.same in
    let stuck = queue_stuck _ _ _ _ _ _ _ (ap (map (λ r. r.0)) idle.0) idle.1.is in
    rw (c.deref-in-Some-first_unmarked.ensures.value, c.deref-in-Some-first_unmarked-2.ensures.value, ← same) stuck

pub returns-in-None : goal.returns-in-None
returns-in-None c =
    let idle = rw c.in_default.is at c.in_ok-waiting.ensures.next in
    let same = c.in_ok-waiting.ensures.same ∙ c.listing.invariant.same in
    let all = subst (λ (marks : List Bool). (f : ℕ) → f < length marks → is_marked marks f ≡ true) c.deref.ensures.value c.in-None.ensures in
    rw (← same) (queue_listed _ _ _ _ _ _ _ idle.1.nexts idle.1.is all)
