use Rattle.std.proofs.Common.{arith}
use Rattle.design_form.proofs.WordLemmas.{pushed, ended}
use Rattle.design_form.proofs.SelectLemmas.{part-more, part-end}
use Rattle.design_form.proofs.selects.part.Goals as goal

pub loop-place-preserved : goal.loop-place-preserved
loop-place-preserved c = pushed _ _ _ _ _ _ _ c.in_ok-push.ensures.items c.part_bit.ensures (part-more c.args.range c.args.word.now c.args.second c.loop-place.place c.args.width (omega arith)) c.loop-place.invariant

pub returns : goal.returns
returns c = ended _ _ _ (part-end c.args.range c.args.word.now c.args.second c.loop-place.place c.args.width (omega arith)) c.loop-place.invariant
