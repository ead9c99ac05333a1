use Rattle.std.proofs.Common.{◌≡◌}
use Rattle.sat_chain.specs.Marks.{live_in}
use Rattle.sat_chain.proofs.resolution.forget_all.Given as goal

abbrev pub invariant-loop-n : goal.invariant-loop-n
invariant-loop-n l = l.live ≡ live_in l.marks
