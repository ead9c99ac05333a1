use Rattle.design_sizes.specs.declared.sizing.Sizing.{Sizing}
use Rattle.design_sizes.specs.Lists.{sized_of}
use Rattle.elab_weight.specs.PartWeights.{part_weight}
use Rattle.elab_weight.proofs.Sums.{sum-next}
use Rattle.elab_weight.proofs.parts.parts_weight.Goals as goal

pub loop-part-preserved : goal.loop-part-preserved
loop-part-preserved c =
    sum-next (λ (p : Sizing). part_weight c.args.design.now (sized_of p)) c.args.so_far c.args.parts.now c.loop-part.part-index c.part-item.result _ _ _
    c.loop-part-test.true c.part-item.is c.in_ok-more.ensures c.plus-weight.ensures c.loop-part.invariant
