-- What is left decides.
use Rattle.std.proofs.Common.{◌≡◌, drop}
use Rattle.elab_scopes.specs.Threads.{threaded}
use Rattle.vlog_elab.specs.Tables.{tally_of}
use Rattle.vlog_elab.specs.Tallies.{gate_tallied}
use Rattle.vlog_elab.proofs.tally.Tally.gates.Given as goal

abbrev pub invariant-loop-gate : goal.invariant-loop-gate
invariant-loop-gate l = threaded (gate_tallied l.design) (tally_of l.self) (drop l.gate-index l.gates) ≡ threaded (gate_tallied l.design) (tally_of l.fn.self) l.gates
