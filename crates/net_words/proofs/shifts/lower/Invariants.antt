use Rattle.std.proofs.Common.{◌≡◌, ◌++◌, drop}
use Rattle.net_words.specs.Shifts.{lowered}
use Rattle.net_words.proofs.shifts.lower.Given as goal

abbrev pub invariant-loop-i : goal.invariant-loop-i
invariant-loop-i l = l.moved.items ++ lowered l.fill l.distance (drop l.i l.word) ≡ lowered l.fill l.distance l.word
