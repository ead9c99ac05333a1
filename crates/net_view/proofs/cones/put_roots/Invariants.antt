use Rattle.std.proofs.Common.{[], map, take, Contains}
use Rattle.std.specs.Ordering.{nat_cmp}
use Rattle.std.specs.BinaryHeap.{heap_items, IsHeap}
use Rattle.net_view.specs.Due.{Adds}
use Rattle.net_view.proofs.cones.put_roots.Given as goal

abbrev pub invariant-roots : goal.invariant-roots
invariant-roots g l = record {
  heap : IsHeap nat_cmp (heap_items l.due);
  items : Adds (Contains (map g.V.View.node_number (take l.root-index l.roots))) [] (heap_items l.due);
}
