use Rattle.std.proofs.Common.{◌-◌, length}
use Rattle.net_view.proofs.CycleLemmas.{Path}
use Rattle.net_view.proofs.queue.find_cycle.Given as goal

abbrev pub invariant-path : goal.invariant-path
invariant-path l = Path l.needs l.at l.listed l.seen.items l.path.items l.f

abbrev pub decreases-path : goal.decreases-path
decreases-path l = length l.needs - length l.path.items
