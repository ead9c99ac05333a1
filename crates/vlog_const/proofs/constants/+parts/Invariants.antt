-- What is left of the members decides what all give.
use Rattle.std.proofs.Common.{◌≡◌, ◌≤◌, map, drop}
use Rattle.vlog_const.specs.Names.{values_of}
use Rattle.vlog_const.specs.Selects.{joined, nothing}
use Rattle.vlog_const.specs.Constants.{worth}
use Rattle.vlog_const.proofs.constants.+parts.Given as goal

abbrev pub invariant-joined-loop-member : goal.invariant-joined-loop-member
invariant-joined-loop-member l =
    (joined l.place l.so_far (map (worth (values_of l.env)) (drop l.member-index l.members)) ≡ joined l.place nothing (map (worth (values_of l.env)) l.members))
    × (l.so_far.width ≤ 128)
