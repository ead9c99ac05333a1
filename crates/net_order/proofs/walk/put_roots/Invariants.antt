use Rattle.std.proofs.Common.{◌≡◌, ◌≤◌, length, map, reverse, drop}
use Rattle.net_order.specs.declared.step.Step.TheVariants.{Visit}
use Rattle.net_order.specs.Order.{roots_in}
use Rattle.net_order.proofs.walk.put_roots.Given as goal

abbrev pub invariant-roots : goal.invariant-roots
invariant-roots l = record {
  inside : l.left ≤ length l.roots;
  done : reverse l.steps.items ≡ map Visit (roots_in (drop l.left l.roots));
}

abbrev pub decreases-roots : goal.decreases-roots
decreases-roots l = l.left
