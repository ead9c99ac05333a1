use Rattle.rdc_tern.proofs.WordSteps.{any_more, any_whole}
use Rattle.rdc_tern.proofs.comparisons.any.Goals as goal

pub loop-bit-preserved : goal.loop-bit-preserved
loop-bit-preserved c = rw c.or-found.ensures (any_more _ c.args.word.now c.loop-bit.bit-index _ _ c.loop-bit-test.true c.loop-bit.invariant)

pub returns : goal.returns
returns c = any_whole _ c.args.word.now c.loop-bit.bit-index _ c.loop-bit-test.false c.loop-bit.invariant
