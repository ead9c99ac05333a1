use Rattle.std.proofs.Common.{arith}
use Rattle.vlog_proc.specs.Uses.{target_uses}
use Rattle.vlog_proc.specs.Paths.{ready}
use Rattle.vlog_proc.proofs.Chains.{one_more, one_stops, all_done}
use Rattle.vlog_proc.proofs.reading.+indexing.Goals as goal

pub all_target_reads-loop-e-preserved : goal.all_target_reads-loop-e-preserved
all_target_reads-loop-e-preserved t c = one_more (target_uses (ready c.args.design.now.signals c.args.bits.now.keys c.args.done.now.keys)) _ _ c.args.es.now c.loop-e.e-index c.e-item.result (omega arith) c.e-item.is c.loop-e.invariant c.in-Ok.ensures

pub all_target_reads-returns-in-Err : goal.all_target_reads-returns-in-Err
all_target_reads-returns-in-Err t c = one_stops (target_uses (ready c.args.design.now.signals c.args.bits.now.keys c.args.done.now.keys)) _ _ c.args.es.now c.loop-e.e-index c.e-item.result (omega arith) c.e-item.is c.loop-e.invariant c.in-Err.ensures

pub all_target_reads-returns : goal.all_target_reads-returns
all_target_reads-returns t c = all_done (target_uses (ready c.args.design.now.signals c.args.bits.now.keys c.args.done.now.keys)) _ c.args.es.now c.loop-e.e-index (omega arith) c.loop-e.invariant
