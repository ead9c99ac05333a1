use Rattle.std.proofs.Common.{arith}
use Rattle.elab_scopes.proofs.ThreadLemmas.{one_more, one_stops, all_done}
use Rattle.vlog_elab.specs.Tables.{tally_of}
use Rattle.vlog_elab.specs.Tallies.{driver_tallied}
use Rattle.vlog_elab.proofs.tally.Tally.drivers.Goals as goal

pub loop-driver-preserved : goal.loop-driver-preserved
loop-driver-preserved c = one_more (driver_tallied c.args.design.now) (tally_of c.loop-driver.self) (tally_of c.driver.new.self) (tally_of c.args.self.now) c.args.drivers.now c.loop-driver.driver-index c.driver-item.result (omega arith) c.driver-item.is c.loop-driver.invariant c.in-Ok.ensures

pub returns-in-Err : goal.returns-in-Err
returns-in-Err c = one_stops (driver_tallied c.args.design.now) (tally_of c.loop-driver.self) (tally_of c.args.self.now) c.in-Err.fault c.args.drivers.now c.loop-driver.driver-index c.driver-item.result (omega arith) c.driver-item.is c.loop-driver.invariant c.in-Err.ensures

pub returns : goal.returns
returns c = all_done (driver_tallied c.args.design.now) (tally_of c.loop-driver.self) (tally_of c.args.self.now) c.args.drivers.now c.loop-driver.driver-index (omega arith) c.loop-driver.invariant
