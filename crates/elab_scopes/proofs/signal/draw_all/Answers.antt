use Rattle.std.proofs.Common.{arith}
use Rattle.elab_decls.specs.Tables.{table_of}
use Rattle.elab_scopes.specs.Tables.{drawn_of}
use Rattle.elab_scopes.specs.Signals.{drawn}
use Rattle.elab_scopes.proofs.ThreadLemmas.{one_more, one_stops, all_done}
use Rattle.elab_scopes.proofs.signal.draw_all.Goals as goal

pub loop-one-preserved : goal.loop-one-preserved
loop-one-preserved g c = one_more (λ e x. drawn c.args.manner.now.prefix.now (table_of c.args.manner.now.entries.now).at c.args.manner.now.gives c.args.range e (g.N.Naming.ident x)) (drawn_of c.loop-one.d) (drawn_of c.draw_one.new.d) (drawn_of c.args.d.now) c.args.all.now c.loop-one.one-index c.one-item.result (omega arith) c.one-item.is c.loop-one.invariant c.in-Ok.ensures

pub returns-in-Err : goal.returns-in-Err
returns-in-Err g c = one_stops (λ e x. drawn c.args.manner.now.prefix.now (table_of c.args.manner.now.entries.now).at c.args.manner.now.gives c.args.range e (g.N.Naming.ident x)) (drawn_of c.loop-one.d) (drawn_of c.args.d.now) c.in-Err.fault c.args.all.now c.loop-one.one-index c.one-item.result (omega arith) c.one-item.is c.loop-one.invariant c.in-Err.ensures

pub returns : goal.returns
returns g c = all_done (λ e x. drawn c.args.manner.now.prefix.now (table_of c.args.manner.now.entries.now).at c.args.manner.now.gives c.args.range e (g.N.Naming.ident x)) (drawn_of c.loop-one.d) (drawn_of c.args.d.now) c.args.all.now c.loop-one.one-index (omega arith) c.loop-one.invariant
