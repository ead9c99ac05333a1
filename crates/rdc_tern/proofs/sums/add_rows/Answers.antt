use Rattle.rdc_tern.proofs.WordSteps.{products_more, products_whole}
use Rattle.rdc_tern.proofs.sums.add_rows.Goals as goal

pub loop-i-preserved : goal.loop-i-preserved
loop-i-preserved c = rw c.add_row.ensures (products_more c.loop-i.sum c.args.a.now c.loop-i.i c.args.b.now _ _ c.loop-i-test.true c.loop-i.invariant)

pub returns : goal.returns
returns c = products_whole c.loop-i.sum c.args.a.now c.loop-i.i c.args.b.now _ c.loop-i-test.false c.loop-i.invariant
