use Rattle.std.proofs.Common.{arith}
use Rattle.elab_scopes.proofs.ThreadLemmas.{one_more, one_stops, all_done}
use Rattle.vlog_elab.specs.Tables.{tally_of}
use Rattle.vlog_elab.specs.Tallies.{gate_tallied}
use Rattle.vlog_elab.proofs.tally.Tally.gates.Goals as goal

pub loop-gate-preserved : goal.loop-gate-preserved
loop-gate-preserved c = one_more (gate_tallied c.args.design.now) (tally_of c.loop-gate.self) (tally_of c.gate.new.self) (tally_of c.args.self.now) c.args.gates.now c.loop-gate.gate-index c.gate-item.result (omega arith) c.gate-item.is c.loop-gate.invariant c.in-Ok.ensures

pub returns-in-Err : goal.returns-in-Err
returns-in-Err c = one_stops (gate_tallied c.args.design.now) (tally_of c.loop-gate.self) (tally_of c.args.self.now) c.in-Err.fault c.args.gates.now c.loop-gate.gate-index c.gate-item.result (omega arith) c.gate-item.is c.loop-gate.invariant c.in-Err.ensures

pub returns : goal.returns
returns c = all_done (gate_tallied c.args.design.now) (tally_of c.loop-gate.self) (tally_of c.args.self.now) c.args.gates.now c.loop-gate.gate-index (omega arith) c.loop-gate.invariant
