-- What is left decides.
use Rattle.std.proofs.Common.{◌≡◌, drop}
use Rattle.elab_scopes.specs.Threads.{threaded}
use Rattle.elab_drivers.specs.Drafts.{draft_of}
use Rattle.elab_drivers.specs.Drivers.{assigns}
use Rattle.elab_drivers.proofs.drivers.assign_all.Given as goal

abbrev pub invariant-loop-assignment : goal.invariant-loop-assignment
invariant-loop-assignment l = threaded (assigns) (draft_of l.d) (drop l.assignment-index l.assignments) ≡ threaded (assigns) (draft_of l.fn.d) l.assignments
