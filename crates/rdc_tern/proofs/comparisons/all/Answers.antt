use Rattle.rdc_tern.proofs.WordSteps.{all_more, all_whole}
use Rattle.rdc_tern.proofs.comparisons.all.Goals as goal

pub loop-bit-preserved : goal.loop-bit-preserved
loop-bit-preserved c = rw c.and-found.ensures (all_more _ c.args.word.now c.loop-bit.bit-index _ _ c.loop-bit-test.true c.loop-bit.invariant)

pub returns : goal.returns
returns c = all_whole _ c.args.word.now c.loop-bit.bit-index _ c.loop-bit-test.false c.loop-bit.invariant
