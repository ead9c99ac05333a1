use Rattle.std.proofs.Common.{rules, arith}
use Rattle.thin_tree.proofs.TableLemmas.{table-start, table-more, table-end}
use Rattle.thin_tree.proofs.places.Places.new.Goals as goal

pub loop-left-init : goal.loop-left-init
loop-left-init c = (table-start c.args.names.now _ (search rules), omega arith)

pub loop-left-preserved : goal.loop-left-preserved
loop-left-preserved c = (table-more c.args.names.now c.loop-left.left _ c.loop-left.table c.insert.new.self _ (omega arith) (omega arith) c.in_ok-name.ensures.items c.in_ok-insert.ensures.updates c.loop-left.invariant.0, omega arith)

pub returns : goal.returns
returns c = table-end c.args.names.now c.loop-left.left _ (omega arith) c.loop-left.invariant.0
