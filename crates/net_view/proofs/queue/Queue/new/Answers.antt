use Rattle.std.proofs.Common.{◌≡◌, ◌+◌, ◌-◌, ℕ, suc, false, length, replicate, subst, ◌∙◌, refl, arith}
use Rattle.std.specs.List.{range_with_len}
use Rattle.net_view.specs.QueueOf.{QueueOf}
use Rattle.net_view.proofs.ListingLemmas.{queue_start, nexts_none}
use Rattle.net_view.proofs.queue.Queue.new.Goals as goal

pub items-init : goal.items-init
items-init c =
    let needs = c.args.needs.now in
    let n = length needs in
    let at-is : c.in_ok-vec.field-0.items ≡ replicate n 0 = c.in_ok-vec.ensures.items_if_clones_equal (λ y h. h) in
    let queued-is : c.in_ok-vec-2.field-0.items ≡ replicate n false = c.in_ok-vec-2.ensures.items_if_clones_equal (λ y h. h) in
    let listed-is : c.in_ok-vec-3.field-0.items ≡ replicate n false = c.in_ok-vec-3.ensures.items_if_clones_equal (λ y h. h) in
    let all : n ≡ n - 0 = omega arith in
    let start = queue_start needs c.in_ok-no_lists.field-0.items c.requires.closed c.in_ok-no_lists.ensures.0 c.in_ok-no_lists.ensures.1 in
    record {
      queue = record {
        heap = c.new.ensures.heap_order;
        nexts = rw c.new-2.ensures.items (nexts_none needs);
        is = rw (at-is, queued-is, listed-is, c.new.ensures.items, c.new-2.ensures.items, ← all) start;
      };
      same = refl;
    }

pub settle-requires : goal.settle-requires
settle-requires c =
    let n = length c.args.needs.now in
    let f = c.items.f in
    let more : n - f ≡ suc (n - (f + 1)) = omega arith in
    (range_with_len (f + 1) (n - (f + 1)), subst (λ (k : ℕ). QueueOf c.items.queue (range_with_len f k)) more c.items.invariant.queue)

pub items-preserved : goal.items-preserved
items-preserved c =
    let n = length c.args.needs.now in
    let f = c.items.f in
    let more : n - f ≡ suc (n - (f + 1)) = omega arith in
    record {
      queue = c.in_ok-settle.ensures.settled (range_with_len (f + 1) (n - (f + 1))) (subst (λ (k : ℕ). QueueOf c.items.queue (range_with_len f k)) more c.items.invariant.queue);
      same = c.in_ok-settle.ensures.needs ∙ c.items.invariant.same;
    }

pub returns-clause-queue : goal.returns-clause-queue
returns-clause-queue c =
    let none : length c.args.needs.now - c.items.f ≡ 0 = omega arith in
    subst (λ (k : ℕ). QueueOf c.items.queue (range_with_len c.items.f k)) none c.items.invariant.queue
