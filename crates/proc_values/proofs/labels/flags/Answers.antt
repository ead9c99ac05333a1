use Rattle.std.proofs.Common.{arith, refl}
use Rattle.design_form.proofs.WordLemmas.{pushed, ended}
use Rattle.proc_values.proofs.LabelLemmas.{flags_more, flags_end}
use Rattle.proc_values.proofs.labels.flags.Goals as goal

pub loop-place-preserved : goal.loop-place-preserved
loop-place-preserved c = pushed _ _ _ _ _ _ _ c.in_ok-push.ensures.items refl (flags_more c.args.width c.loop-place.place c.loop-place.left (omega arith)) c.loop-place.invariant

pub returns : goal.returns
returns c = ended _ _ _ (flags_end c.args.width c.loop-place.place c.loop-place.left (omega arith)) c.loop-place.invariant
