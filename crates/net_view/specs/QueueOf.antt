-- A queue in memory, and what it comes to.
--   QueueOf       a queue whose items are in their places, but for those that are due
--   IsListed      each answer of least_first
use Rattle.std.specs.Prelude.{ℕ, List, map}
use Rattle.std.specs.Ordering.{nat_cmp}
use Rattle.std.specs.BinaryHeap.{heap_items, IsHeap}
use Rattle.net_view.specs.declared.queue.Queue.{Queue}
use Rattle.net_view.specs.declared.queue.Listing.{Listing}
use Rattle.net_view.specs.declared.queue.Listing.TheVariants.{Order, Cycle}
use Rattle.net_view.specs.Queue.{IsQueue, Nexts, IsListing, IsCycle}

-- the queue holds its items, of which these are due, the ready ones as a heap with the least on top
pub record QueueOf (q : Queue) (due : List ℕ) : Type 0 where
  pub heap : IsHeap (λ x y. nat_cmp y.0 x.0) (heap_items q.ready)
  pub nexts : Nexts q.needs.now q.order.items
  pub is : IsQueue q.needs.now q.at.items q.waiting.items q.queued.items q.listed.items (map (λ r. r.0) (heap_items q.ready)) q.order.items due

-- the whole order, or a cycle
abbrev pub IsListed : List (List ℕ) → Listing → Type 0
IsListed needs (Order order) = IsListing needs order.items
IsListed needs (Cycle cycle) = IsCycle needs cycle.items
