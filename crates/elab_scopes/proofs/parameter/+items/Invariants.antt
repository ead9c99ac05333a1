-- What is left decides.
use Rattle.std.proofs.Common.{◌≡◌, drop}
use Rattle.elab_names.specs.Meanings.{frames_of}
use Rattle.elab_scopes.specs.Tables.{given_of}
use Rattle.elab_scopes.specs.Threads.{threaded}
use Rattle.elab_scopes.specs.Parameters.{parameters_of_item}
use Rattle.elab_scopes.proofs.parameter.+items.Given as goal

abbrev pub invariant-enter_items-loop-item : goal.invariant-enter_items-loop-item
invariant-enter_items-loop-item l = threaded (parameters_of_item (given_of l.given)) (frames_of l.scope) (drop l.item-index l.items) ≡ threaded (parameters_of_item (given_of l.given)) (frames_of l.fn.scope) l.items
