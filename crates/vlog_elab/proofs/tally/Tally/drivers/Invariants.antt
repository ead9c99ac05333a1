-- What is left decides.
use Rattle.std.proofs.Common.{◌≡◌, drop}
use Rattle.elab_scopes.specs.Threads.{threaded}
use Rattle.vlog_elab.specs.Tables.{tally_of}
use Rattle.vlog_elab.specs.Tallies.{driver_tallied}
use Rattle.vlog_elab.proofs.tally.Tally.drivers.Given as goal

abbrev pub invariant-loop-driver : goal.invariant-loop-driver
invariant-loop-driver l = threaded (driver_tallied l.design) (tally_of l.self) (drop l.driver-index l.drivers) ≡ threaded (driver_tallied l.design) (tally_of l.fn.self) l.drivers
