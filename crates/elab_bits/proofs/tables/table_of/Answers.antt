use Rattle.std.proofs.Common.{arith}
use Rattle.elab_bits.proofs.FirstPlaces.{table_start, table_more, table_end}
use Rattle.elab_bits.proofs.tables.table_of.Goals as goal

pub loop-touch-init : goal.loop-touch-init
loop-touch-init c = table_start c.in_ok-table.table.items c.args.count (c.in_ok-table.ensures.items_if_clones_equal (λ y e. e))

pub loop-touch-preserved : goal.loop-touch-preserved
loop-touch-preserved c = table_more c.loop-touch.table.items c.mark.new.table.items c.args.count c.args.touches.now c.loop-touch.touch-index _ c.loop-touch-test.true c.loop-touch.invariant c.mark.ensures

pub returns : goal.returns
returns c = table_end c.loop-touch.table.items c.args.count c.args.touches.now c.loop-touch.touch-index (omega arith) c.loop-touch.invariant
