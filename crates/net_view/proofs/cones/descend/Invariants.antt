use Rattle.std.proofs.Common.{◌+◌, ◌*◌}
use Rattle.std.specs.Ordering.{nat_cmp}
use Rattle.std.specs.BinaryHeap.{heap_items, heap_len, IsHeap}
use Rattle.net_view.proofs.ConeLemmas.{Walk}
use Rattle.net_view.proofs.cones.descend.Given as goal

abbrev pub invariant-due : goal.invariant-due
invariant-due g l = record {
  heap : IsHeap nat_cmp (heap_items l.due);
  walk : Walk (g.V.View.gates l.view) (heap_items l.fn.due) (heap_items l.due) l.found.items l.last;
}

abbrev pub decreases-due : goal.decreases-due
decreases-due g l = 3 * l.last + heap_len l.due
