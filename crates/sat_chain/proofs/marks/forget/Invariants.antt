use Rattle.std.proofs.Common.{◌≡◌}
use Rattle.sat_chain.specs.Marks.{live_in}
use Rattle.sat_chain.proofs.marks.forget.Given as goal

abbrev pub invariant-loop-lit : goal.invariant-loop-lit
invariant-loop-lit l = l.live ≡ live_in l.marks
