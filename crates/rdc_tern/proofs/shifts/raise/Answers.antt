use Rattle.std.proofs.Common.{◌≡◌, ◌+◌, ◌-◌, length, arith}
use Rattle.rdc_tern.specs.declared.value.Tern.TheVariants.{Zero}
use Rattle.rdc_tern.proofs.ShiftSteps.{raise_written}
use Rattle.rdc_tern.proofs.shifts.raise.Goals as goal

pub loop-i-preserved : goal.loop-i-preserved
loop-i-preserved c =
    let place = length c.args.word.now - 1 - c.loop-i.i in
    let next : length c.args.word.now - (c.loop-i.i + 1) ≡ place = omega arith in
    rw next (raise_written c.args.bit Zero c.args.distance c.loop-i.word place (length c.args.word.now - c.loop-i.i) _ _ _ (omega arith) (omega arith) (rw c.below.ensures at c.mux.ensures) c.loop-i.invariant)

pub returns : goal.returns
returns c =
    let none : length c.args.word.now - c.loop-i.i ≡ 0 = omega arith in
    rw none at c.loop-i.invariant
