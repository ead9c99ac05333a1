use Rattle.std.proofs.Common.{arith, ◌≤◌, min, length}
use Rattle.proc_values.proofs.LabelLemmas.{same_more, same_end}
use Rattle.proc_values.proofs.labels.same.Goals as goal

pub loop-i-preserved : goal.loop-i-preserved
loop-i-preserved c =
    rw (c.and-hit.ensures, c.same_bit.ensures)
    (same_more c.loop-i.hit c.args.free.now c.args.x.now c.args.y.now c.loop-i.i _ _ _ (omega (arith, c.min-i-end.ensures, c.loop-i-test.true)) (omega (arith, c.min-i-end.ensures, c.loop-i-test.true)) c.loop-i.invariant)

pub returns : goal.returns
returns c =
    let past : min (length c.args.x.now) (length c.args.y.now) ≤ c.loop-i.i = omega (arith, c.min-i-end.ensures, c.loop-i-test.false) in
    same_end c.loop-i.hit c.args.free.now c.args.x.now c.args.y.now c.loop-i.i _ past c.loop-i.invariant
