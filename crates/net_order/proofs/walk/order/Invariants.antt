use Rattle.std.proofs.Common.{◌+◌, ◌*◌, length, reverse}
use Rattle.net_order.specs.Order.{reads, roots_in}
use Rattle.net_order.specs.Order as orders
use Rattle.net_order.proofs.Stepping.{IsWalk, fresh}
use Rattle.net_order.proofs.walk.order.Given as goal

abbrev pub invariant-steps : goal.invariant-steps
invariant-steps l = record {
  walk : IsWalk (reads l.gates l.roots) (length l.gates) (roots_in l.roots) (orders.order l.gates l.roots) l.walk.marks.items (reverse l.walk.steps.items) l.walk.done.items;
}

abbrev pub decreases-steps : goal.decreases-steps
decreases-steps l = 5 * fresh l.walk.marks.items + length l.walk.steps.items
