-- The members from the last one up to here.
use Rattle.std.proofs.Common.{◌≡◌, ◌≤◌, drop, length}
use Rattle.proc_values.specs.Labels.{joined_free}
use Rattle.proc_values.proofs.LabelLemmas.{beside}
use Rattle.proc_values.proofs.labels.+masking.Given as goal

abbrev pub invariant-joined_free-loop-left : goal.invariant-joined_free-loop-left
invariant-joined_free-loop-left l = (l.all.items ≡ joined_free l.design (beside l.design (drop l.left l.members))) × (l.left ≤ length l.members)

abbrev pub decreases-joined_free-loop-left : goal.decreases-joined_free-loop-left
decreases-joined_free-loop-left l = l.left
