use Rattle.std.proofs.Common.{arith}
use Rattle.elab_weight.specs.TargetBits.{target_bits}
use Rattle.elab_weight.proofs.OnceLemmas.{more-next, more-end}
use Rattle.elab_weight.proofs.targets.+targets.Goals as goal

pub put_targets-loop-e-preserved : goal.put_targets-loop-e-preserved
put_targets-loop-e-preserved t c =
    more-next (target_bits c.args.design.now) c.args.es.now c.loop-e.e-index c.e-item.result _ _ _ c.loop-e-test.true c.e-item.is c.in-Ok.ensures c.loop-e.invariant

pub put_targets-returns : goal.put_targets-returns
put_targets-returns t c = more-end (target_bits c.args.design.now) c.args.es.now c.loop-e.e-index _ _ (omega arith) c.loop-e.invariant
