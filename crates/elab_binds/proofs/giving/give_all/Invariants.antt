-- What is left decides.
use Rattle.std.proofs.Common.{◌≡◌, drop}
use Rattle.elab_names.specs.Meanings.{frames_of}
use Rattle.elab_scopes.specs.Tables.{given_of}
use Rattle.elab_scopes.specs.Threads.{threaded}
use Rattle.elab_binds.specs.Connections.{named_one, so_far}
use Rattle.elab_binds.specs.Flags.{flags_of}
use Rattle.elab_binds.specs.Passed.{giving}
use Rattle.elab_binds.proofs.giving.give_all.Given as goal

abbrev pub invariant-loop-one : goal.invariant-loop-one
invariant-loop-one l = threaded (named_one (giving (frames_of l.scope)) (flags_of l.known)) (so_far (flags_of l.taken) (given_of l.given)) (drop l.one-index l.all) ≡ threaded (named_one (giving (frames_of l.scope)) (flags_of l.known)) (so_far (flags_of l.fn.taken) (given_of l.fn.given)) l.all
