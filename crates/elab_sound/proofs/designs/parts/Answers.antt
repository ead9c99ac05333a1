use Rattle.std.proofs.Common.{arith}
use Rattle.design_sizes.specs.Lists.{sized_of}
use Rattle.elab_sound.specs.Selects.{checked}
use Rattle.elab_sound.proofs.Chains.{one_more, one_stops, all_done, all_mapped}
use Rattle.elab_sound.proofs.designs.parts.Goals as goal

pub loop-part-init : goal.loop-part-init
loop-part-init c = all_mapped (checked c.args.design.now) sized_of c.args.parts.now

pub loop-part-preserved : goal.loop-part-preserved
loop-part-preserved c = one_more (λ p. checked c.args.design.now (sized_of p)) _ _ c.args.parts.now c.loop-part.part-index c.part-item.result (omega arith) c.part-item.is c.loop-part.invariant c.in-Ok.ensures

pub returns-in-Err : goal.returns-in-Err
returns-in-Err c = one_stops (λ p. checked c.args.design.now (sized_of p)) _ _ c.args.parts.now c.loop-part.part-index c.part-item.result (omega arith) c.part-item.is c.loop-part.invariant c.in-Err.ensures

pub returns : goal.returns
returns c = all_done (λ p. checked c.args.design.now (sized_of p)) _ c.args.parts.now c.loop-part.part-index (omega arith) c.loop-part.invariant
