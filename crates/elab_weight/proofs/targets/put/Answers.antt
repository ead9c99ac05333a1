use Rattle.elab_weight.proofs.OnceLemmas.{put-next}
use Rattle.elab_weight.proofs.targets.put.Goals as goal

pub loop-number-preserved : goal.loop-number-preserved
loop-number-preserved c = put-next c.args.numbers.now c.loop-number.number-index _ _ _ c.loop-number-test.true c.in_ok-insert.ensures.keys c.loop-number.invariant
