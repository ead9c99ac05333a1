use Rattle.std.proofs.Common.{arith}
use Rattle.elab_decls.specs.Mentions.{said_of_item}
use Rattle.elab_decls.specs.Tables.{table_of}
use Rattle.elab_decls.proofs.ListLemmas.{one_more, one_refused, all_entered}
use Rattle.elab_decls.proofs.reader.+items.Goals as goal

pub enter_items-loop-item-preserved : goal.enter_items-loop-item-preserved
enter_items-loop-item-preserved t c =
    one_more said_of_item (table_of c.loop-item.table) (table_of c.enter_item.new.table) (table_of c.args.table.now) c.args.items.now c.loop-item.item-index c.item-item.result (omega arith) c.item-item.is c.loop-item.invariant c.in-Ok.ensures

pub enter_items-returns-in-Err : goal.enter_items-returns-in-Err
enter_items-returns-in-Err t c =
    one_refused said_of_item (table_of c.loop-item.table) (table_of c.args.table.now) c.in-Err.fault c.args.items.now c.loop-item.item-index c.item-item.result (omega arith) c.item-item.is c.loop-item.invariant c.in-Err.ensures

pub enter_items-returns : goal.enter_items-returns
enter_items-returns t c = all_entered said_of_item (table_of c.loop-item.table) (table_of c.args.table.now) c.args.items.now c.loop-item.item-index (omega arith) c.loop-item.invariant
