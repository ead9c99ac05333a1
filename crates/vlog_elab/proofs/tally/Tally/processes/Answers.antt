use Rattle.std.proofs.Common.{arith}
use Rattle.elab_scopes.proofs.ThreadLemmas.{one_more, one_stops, all_done}
use Rattle.vlog_elab.specs.Tables.{tally_of}
use Rattle.vlog_elab.specs.Tallies.{process_tallied}
use Rattle.vlog_elab.proofs.tally.Tally.processes.Goals as goal

pub loop-process-preserved : goal.loop-process-preserved
loop-process-preserved c = one_more (process_tallied c.args.design.now c.args.inputs.now) (tally_of c.loop-process.self) (tally_of c.process.new.self) (tally_of c.args.self.now) c.args.processes.now c.loop-process.process-index c.process-item.result (omega arith) c.process-item.is c.loop-process.invariant c.in-Ok.ensures

pub returns-in-Err : goal.returns-in-Err
returns-in-Err c = one_stops (process_tallied c.args.design.now c.args.inputs.now) (tally_of c.loop-process.self) (tally_of c.args.self.now) c.in-Err.fault c.args.processes.now c.loop-process.process-index c.process-item.result (omega arith) c.process-item.is c.loop-process.invariant c.in-Err.ensures

pub returns : goal.returns
returns c = all_done (process_tallied c.args.design.now c.args.inputs.now) (tally_of c.loop-process.self) (tally_of c.args.self.now) c.args.processes.now c.loop-process.process-index (omega arith) c.loop-process.invariant
