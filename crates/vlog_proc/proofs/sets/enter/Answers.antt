use Rattle.std.proofs.Common.{arith}
use Rattle.std.proofs.lemmas.List.{get_or_default}
use Rattle.vlog_proc.proofs.Rows.{entered_more, entered_end}
use Rattle.vlog_proc.proofs.sets.enter.Goals as goal

pub loop-bit-preserved : goal.loop-bit-preserved
loop-bit-preserved c = entered_more c.loop-bit.set.keys _ c.args.bits.now _ c.loop-bit.bit-index _ c.loop-bit-test.true (get_or_default _ _ _ _ c.loop-bit-test.true) c.in_ok-insert.ensures.keys c.loop-bit.invariant

pub returns : goal.returns
returns c = entered_end c.loop-bit.set.keys c.args.bits.now _ c.loop-bit.bit-index (omega arith) c.loop-bit.invariant
