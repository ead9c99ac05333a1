use Rattle.std.proofs.Common.{arith}
use Rattle.net_view.proofs.Members.{contains_at}
use Rattle.net_view.proofs.queue.first_place.Goals as goal

pub unreachable-requires : goal.unreachable-requires
unreachable-requires c = let there = contains_at c.args.items.now c.args.f c.requires in absurd (c.items.invariant there.0 (omega (arith, there.1)) there.2)
