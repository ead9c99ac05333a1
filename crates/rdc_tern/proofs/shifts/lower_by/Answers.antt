use Rattle.rdc_tern.proofs.ShiftSteps.{lower_bit, shift_whole}
use Rattle.rdc_tern.specs.Shifts.{lowered}
use Rattle.rdc_tern.proofs.shifts.lower_by.Goals as goal

pub loop-bit-preserved : goal.loop-bit-preserved
loop-bit-preserved c =
    let step = lower_bit c.args.fill c.loop-bit.word c.lower.new.word c.args.amount.now c.loop-bit.bit-index c.loop-bit.distance c.doubled-distance.result _ _ c.loop-bit-test.true c.lower.ensures c.loop-bit.invariant.distance c.doubled-distance.ensures c.loop-bit.invariant.left in
    record { left = step.1; distance = step.2 }

pub returns : goal.returns
returns c = shift_whole (lowered c.args.fill) c.loop-bit.bit-index c.loop-bit.word c.args.amount.now _ c.loop-bit-test.false c.loop-bit.invariant.left
