-- What is left decides.
use Rattle.std.proofs.Common.{◌≡◌, drop}
use Rattle.elab_decls.specs.Tables.{table_of}
use Rattle.elab_scopes.specs.Tables.{drawn_of}
use Rattle.elab_scopes.specs.Threads.{threaded}
use Rattle.elab_scopes.specs.Signals.{signals_of_item}
use Rattle.elab_scopes.proofs.signal.+items.Given as goal

abbrev pub invariant-draw_items-loop-item : goal.invariant-draw_items-loop-item
invariant-draw_items-loop-item l = threaded (signals_of_item l.prefix (table_of l.entries).at) (drawn_of l.d) (drop l.item-index l.items) ≡ threaded (signals_of_item l.prefix (table_of l.entries).at) (drawn_of l.fn.d) l.items
