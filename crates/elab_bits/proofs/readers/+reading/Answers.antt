use Rattle.std.proofs.Common.{arith}
use Rattle.elab_bits.specs.Reads.{reads}
use Rattle.elab_bits.proofs.Rows.{row_more, row_end}
use Rattle.elab_bits.proofs.readers.+reading.Goals as goal

pub put_all_reads-loop-e-preserved : goal.put_all_reads-loop-e-preserved
put_all_reads-loop-e-preserved t c = row_more (reads c.args.design.now.signals) c.args.es.now c.loop-e.e-index c.e-item.result _ _ _ c.loop-e-test.true c.e-item.is c.in-Ok.ensures c.loop-e.invariant

pub put_all_reads-returns : goal.put_all_reads-returns
put_all_reads-returns t c = row_end (reads c.args.design.now.signals) c.args.es.now c.loop-e.e-index _ _ (omega arith) c.loop-e.invariant
