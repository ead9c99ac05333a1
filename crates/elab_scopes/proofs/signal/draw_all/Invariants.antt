-- What is left decides.
use Rattle.std.proofs.Common.{◌≡◌, drop}
use Rattle.elab_decls.specs.Tables.{table_of}
use Rattle.elab_scopes.specs.Tables.{drawn_of}
use Rattle.elab_scopes.specs.Threads.{threaded}
use Rattle.elab_scopes.specs.Signals.{drawn}
use Rattle.elab_scopes.proofs.signal.draw_all.Given as goal

abbrev pub invariant-loop-one : goal.invariant-loop-one
invariant-loop-one g l = threaded (λ e x. drawn l.manner.prefix.now (table_of l.manner.entries.now).at l.manner.gives l.range e (g.N.Naming.ident x)) (drawn_of l.d) (drop l.one-index l.all) ≡ threaded (λ e x. drawn l.manner.prefix.now (table_of l.manner.entries.now).at l.manner.gives l.range e (g.N.Naming.ident x)) (drawn_of l.fn.d) l.all
