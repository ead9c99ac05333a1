-- The members so far, and those that are left.
use Rattle.std.proofs.Common.{◌≡◌, ◌+◌, map, drop}
use Rattle.design_form.specs.Values.{joined_width, valued}
use Rattle.design_form.specs.State.{seen_in}
use Rattle.design_form.proofs.extents.+extents.Given as goal

abbrev pub invariant-joined_width-loop-member : goal.invariant-joined_width-loop-member
invariant-joined_width-loop-member l =
    joined_width (map (valued (seen_in l.design l.state)) (drop l.member-index l.members)) + l.width ≡ joined_width (map (valued (seen_in l.design l.state)) l.members)
