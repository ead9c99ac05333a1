use Rattle.std.proofs.Common.{arith}
use Rattle.elab_decls.specs.Tables.{table_of}
use Rattle.elab_scopes.specs.Tables.{drawn_of}
use Rattle.elab_scopes.specs.Signals.{signals_of_item}
use Rattle.elab_scopes.proofs.ThreadLemmas.{one_more, one_stops, all_done}
use Rattle.elab_scopes.proofs.signal.+items.Goals as goal

pub draw_items-loop-item-preserved : goal.draw_items-loop-item-preserved
draw_items-loop-item-preserved t c = one_more (signals_of_item c.args.prefix.now (table_of c.args.entries.now).at) (drawn_of c.loop-item.d) (drawn_of c.draw_item.new.d) (drawn_of c.args.d.now) c.args.items.now c.loop-item.item-index c.item-item.result (omega arith) c.item-item.is c.loop-item.invariant c.in-Ok.ensures

pub draw_items-returns-in-Err : goal.draw_items-returns-in-Err
draw_items-returns-in-Err t c = one_stops (signals_of_item c.args.prefix.now (table_of c.args.entries.now).at) (drawn_of c.loop-item.d) (drawn_of c.args.d.now) c.in-Err.fault c.args.items.now c.loop-item.item-index c.item-item.result (omega arith) c.item-item.is c.loop-item.invariant c.in-Err.ensures

pub draw_items-returns : goal.draw_items-returns
draw_items-returns t c = all_done (signals_of_item c.args.prefix.now (table_of c.args.entries.now).at) (drawn_of c.loop-item.d) (drawn_of c.args.d.now) c.args.items.now c.loop-item.item-index (omega arith) c.loop-item.invariant
