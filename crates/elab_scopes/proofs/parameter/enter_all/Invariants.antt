-- What is left decides.
use Rattle.std.proofs.Common.{◌≡◌, drop}
use Rattle.elab_names.specs.Meanings.{frames_of}
use Rattle.elab_scopes.specs.Tables.{given_of}
use Rattle.elab_scopes.specs.Threads.{threaded}
use Rattle.elab_scopes.specs.Parameters.{entered}
use Rattle.elab_scopes.proofs.parameter.enter_all.Given as goal

abbrev pub invariant-loop-binding : goal.invariant-loop-binding
invariant-loop-binding l = threaded (entered l.shape (given_of l.given)) (frames_of l.scope) (drop l.binding-index l.bindings) ≡ threaded (entered l.shape (given_of l.given)) (frames_of l.fn.scope) l.bindings
