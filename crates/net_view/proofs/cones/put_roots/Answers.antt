use Rattle.std.proofs.Common.{◌<◌, length, arith}
use Rattle.net_view.proofs.Members.{adds_more}
use Rattle.net_view.proofs.cones.put_roots.Goals as goal

pub roots-preserved : goal.roots-preserved
roots-preserved g c = record {
  heap = c.in_ok-put.ensures.heap c.roots.invariant.heap;
  items =
      let lt : c.roots.root-index < length c.args.roots.now = omega arith in
      adds_more g.V.View.node_number c.args.roots.now c.roots.root-index c.root-item.result _ _ lt c.roots.invariant.items (rw (← c.root-item.is) c.in_ok-put.ensures.items);
}
