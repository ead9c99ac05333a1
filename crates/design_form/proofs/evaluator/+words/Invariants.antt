-- The members from the last one up to here.
use Rattle.std.proofs.Common.{◌≡◌, ◌≤◌, map, drop, length}
use Rattle.design_form.specs.Values.{joined, valued}
use Rattle.design_form.specs.State.{seen_in}
use Rattle.design_form.proofs.evaluator.+words.Given as goal

abbrev pub invariant-joined-loop-left : goal.invariant-joined-loop-left
invariant-joined-loop-left l =
    (l.all.items ≡ joined (map (valued (seen_in l.design l.state)) (drop l.left l.members))) × (l.left ≤ length l.members)

abbrev pub decreases-joined-loop-left : goal.decreases-joined-loop-left
decreases-joined-loop-left l = l.left
