-- What is left decides.
use Rattle.std.proofs.Common.{◌≡◌, drop}
use Rattle.elab_scopes.specs.Threads.{threaded}
use Rattle.elab_drivers.specs.Drafts.{draft_of}
use Rattle.elab_drivers.specs.Drivers.{wired}
use Rattle.elab_drivers.proofs.drivers.wire_all.Given as goal

abbrev pub invariant-loop-net : goal.invariant-loop-net
invariant-loop-net l = threaded (wired) (draft_of l.d) (drop l.net-index l.nets) ≡ threaded (wired) (draft_of l.fn.d) l.nets
