-- What is left decides.
use Rattle.std.proofs.Common.{◌≡◌, drop}
use Rattle.elab_decls.specs.Tables.{table_of}
use Rattle.elab_scopes.specs.Tables.{drawn_of}
use Rattle.elab_scopes.specs.Threads.{threaded}
use Rattle.elab_scopes.specs.Signals.{integer}
use Rattle.elab_scopes.proofs.signal.draw_integers.Given as goal

abbrev pub invariant-loop-name : goal.invariant-loop-name
invariant-loop-name l = threaded (integer l.prefix (table_of l.entries).at) (drawn_of l.d) (drop l.name-index l.names) ≡ threaded (integer l.prefix (table_of l.entries).at) (drawn_of l.fn.d) l.names
