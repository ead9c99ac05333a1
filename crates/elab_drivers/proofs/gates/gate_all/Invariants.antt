-- What is left decides.
use Rattle.std.proofs.Common.{◌≡◌, drop}
use Rattle.elab_scopes.specs.Threads.{threaded}
use Rattle.elab_drivers.specs.Drafts.{draft_of}
use Rattle.elab_drivers.specs.Drivers.{gated}
use Rattle.elab_drivers.proofs.gates.gate_all.Given as goal

abbrev pub invariant-loop-one : goal.invariant-loop-one
invariant-loop-one l = threaded (gated l.kind) (draft_of l.d) (drop l.one-index l.gates) ≡ threaded (gated l.kind) (draft_of l.fn.d) l.gates
