-- What is left decides.
use Rattle.std.proofs.Common.{◌≡◌, drop}
use Rattle.elab_scopes.specs.Threads.{threaded}
use Rattle.vlog_elab.specs.Tables.{tally_of}
use Rattle.vlog_elab.specs.Tallies.{process_tallied}
use Rattle.vlog_elab.proofs.tally.Tally.processes.Given as goal

abbrev pub invariant-loop-process : goal.invariant-loop-process
invariant-loop-process l = threaded (process_tallied l.design l.inputs) (tally_of l.self) (drop l.process-index l.processes) ≡ threaded (process_tallied l.design l.inputs) (tally_of l.fn.self) l.processes
