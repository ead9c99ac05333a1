-- What is left decides.
use Rattle.std.proofs.Common.{◌≡◌, drop}
use Rattle.elab_names.specs.Meanings.{frames_of}
use Rattle.elab_scopes.specs.Tables.{given_of}
use Rattle.elab_scopes.specs.Threads.{threaded}
use Rattle.elab_scopes.specs.Parameters.{headed}
use Rattle.elab_scopes.proofs.parameter.enter_head.Given as goal

abbrev pub invariant-loop-one : goal.invariant-loop-one
invariant-loop-one l = threaded (headed (given_of l.given)) (frames_of l.scope) (drop l.one-index l.head) ≡ threaded (headed (given_of l.given)) (frames_of l.fn.scope) l.head
