use Rattle.std.proofs.Common.{arith}
use Rattle.vlog_proc.specs.Uses.{uses}
use Rattle.vlog_proc.specs.Paths.{ready}
use Rattle.vlog_proc.proofs.Chains.{one_more, one_stops, all_done}
use Rattle.vlog_proc.proofs.reading.+reading.Goals as goal

pub all_reads-loop-e-preserved : goal.all_reads-loop-e-preserved
all_reads-loop-e-preserved t c = one_more (uses (ready c.args.design.now.signals c.args.bits.now.keys c.args.done.now.keys)) _ _ c.args.es.now c.loop-e.e-index c.e-item.result (omega arith) c.e-item.is c.loop-e.invariant c.in-Ok.ensures

pub all_reads-returns-in-Err : goal.all_reads-returns-in-Err
all_reads-returns-in-Err t c = one_stops (uses (ready c.args.design.now.signals c.args.bits.now.keys c.args.done.now.keys)) _ _ c.args.es.now c.loop-e.e-index c.e-item.result (omega arith) c.e-item.is c.loop-e.invariant c.in-Err.ensures

pub all_reads-returns : goal.all_reads-returns
all_reads-returns t c = all_done (uses (ready c.args.design.now.signals c.args.bits.now.keys c.args.done.now.keys)) _ c.args.es.now c.loop-e.e-index (omega arith) c.loop-e.invariant
