use Rattle.std.proofs.Common.{◌≡◌, ◌++◌, take, replicate}
use Rattle.net_words.proofs.shifts.raise.Given as goal

abbrev pub invariant-loop-i : goal.invariant-loop-i
invariant-loop-i l = l.moved.items ≡ take l.i (replicate l.distance l.fill ++ l.word)
