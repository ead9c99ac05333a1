use Rattle.std.proofs.Common.{arith}
use Rattle.vlog_proc.specs.Paths.{certain}
use Rattle.vlog_proc.proofs.Rows.{row_more, row_end}
use Rattle.vlog_proc.proofs.certain.+naming.Goals as goal

pub put_all_certain-loop-e-preserved : goal.put_all_certain-loop-e-preserved
put_all_certain-loop-e-preserved t c = row_more (certain c.args.design.now.signals) c.args.es.now c.loop-e.e-index c.e-item.result _ _ _ c.loop-e-test.true c.e-item.is c.in-Ok.ensures c.loop-e.invariant

pub put_all_certain-returns : goal.put_all_certain-returns
put_all_certain-returns t c = row_end (certain c.args.design.now.signals) c.args.es.now c.loop-e.e-index _ _ (omega arith) c.loop-e.invariant
