use Rattle.std.proofs.Common.{arith}
use Rattle.elab_decls.specs.Tables.{table_of}
use Rattle.elab_scopes.specs.Tables.{drawn_of}
use Rattle.elab_scopes.specs.Signals.{integer}
use Rattle.elab_scopes.proofs.ThreadLemmas.{one_more, one_stops, all_done}
use Rattle.elab_scopes.proofs.signal.draw_integers.Goals as goal

pub loop-name-preserved : goal.loop-name-preserved
loop-name-preserved c = one_more (integer c.args.prefix.now (table_of c.args.entries.now).at) (drawn_of c.loop-name.d) (drawn_of c.draw_integer.new.d) (drawn_of c.args.d.now) c.args.names.now c.loop-name.name-index c.name-item.result (omega arith) c.name-item.is c.loop-name.invariant c.in-Ok.ensures

pub returns-in-Err : goal.returns-in-Err
returns-in-Err c = one_stops (integer c.args.prefix.now (table_of c.args.entries.now).at) (drawn_of c.loop-name.d) (drawn_of c.args.d.now) c.in-Err.fault c.args.names.now c.loop-name.name-index c.name-item.result (omega arith) c.name-item.is c.loop-name.invariant c.in-Err.ensures

pub returns : goal.returns
returns c = all_done (integer c.args.prefix.now (table_of c.args.entries.now).at) (drawn_of c.loop-name.d) (drawn_of c.args.d.now) c.args.names.now c.loop-name.name-index (omega arith) c.loop-name.invariant
