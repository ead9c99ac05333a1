use Rattle.std.proofs.Common.{arith}
use Rattle.design_form.proofs.WordLemmas.{bits-more, bits-end, pushed, ended}
use Rattle.value_of.proofs.showing.bits_of.Goals as goal

pub loop-place-preserved : goal.loop-place-preserved
loop-place-preserved c = pushed _ _ _ _ _ _ _ c.in_ok-push.ensures.items c.low_bit.ensures (bits-more c.args.width c.loop-place.place c.loop-place.left (omega arith)) c.loop-place.invariant

pub returns : goal.returns
returns c = ended _ _ _ (bits-end c.args.width c.loop-place.place c.loop-place.left (omega arith)) c.loop-place.invariant
