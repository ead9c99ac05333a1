use Rattle.std.proofs.Common.{◌-◌, length}
use Rattle.reset_trees.proofs.ReachLemmas.{Reaching}
use Rattle.reset_trees.proofs.reach.reached.Given as goal

abbrev pub invariant-found : goal.invariant-found
invariant-found l = Reaching l.steps l.seeds l.at l.marks.items l.found.items

abbrev pub decreases-found : goal.decreases-found
decreases-found l = length l.steps - l.at
