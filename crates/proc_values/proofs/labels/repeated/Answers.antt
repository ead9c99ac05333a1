use Rattle.std.proofs.Common.{arith}
use Rattle.design_form.proofs.WordLemmas.{appended, ended}
use Rattle.proc_values.proofs.LabelLemmas.{repeated_more, repeated_end}
use Rattle.proc_values.proofs.labels.repeated.Goals as goal

pub loop-done-preserved : goal.loop-done-preserved
loop-done-preserved c = appended _ _ _ _ _ _ c.in_ok-extend_from_slice.ensures.items (repeated_more c.args.count c.loop-done.done c.args.free.now (omega arith)) c.loop-done.invariant

pub returns : goal.returns
returns c = ended _ _ _ (repeated_end c.args.count c.loop-done.done c.args.free.now (omega arith)) c.loop-done.invariant
