use Rattle.rdc_tern.proofs.ShiftSteps.{lower_written, lower_whole}
use Rattle.rdc_tern.proofs.shifts.lower.Goals as goal
use Rattle.std.proofs.Common.{arith}

pub loop-place-preserved : goal.loop-place-preserved
loop-place-preserved c = lower_written c.args.bit c.args.fill c.args.distance c.loop-place.word c.loop-place.place _ _ _ (omega arith) (rw c.above.ensures at c.mux.ensures) c.loop-place.invariant

pub returns : goal.returns
returns c = lower_whole c.args.bit c.args.fill c.args.distance c.loop-place.word c.loop-place.place _ (omega arith) c.loop-place.invariant
