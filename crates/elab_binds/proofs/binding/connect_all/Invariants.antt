-- What is left decides.
use Rattle.std.proofs.Common.{◌≡◌, drop}
use Rattle.elab_drivers.specs.Drafts.{draft_of}
use Rattle.elab_scopes.specs.Threads.{threaded}
use Rattle.elab_binds.specs.Connections.{named_one, so_far}
use Rattle.elab_binds.specs.Flags.{flags_of}
use Rattle.elab_binds.specs.Bindings.{binding}
use Rattle.elab_binds.proofs.binding.connect_all.Given as goal

abbrev pub invariant-loop-one : goal.invariant-loop-one
invariant-loop-one l = threaded (named_one (binding l.prefix) (flags_of l.known)) (so_far (flags_of l.taken) (draft_of l.d)) (drop l.one-index l.all) ≡ threaded (named_one (binding l.prefix) (flags_of l.known)) (so_far (flags_of l.fn.taken) (draft_of l.fn.d)) l.all
