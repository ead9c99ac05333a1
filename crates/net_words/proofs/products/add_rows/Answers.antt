use Rattle.std.proofs.Common.{le_trans, arith}
use Rattle.net_words.specs.Products.{rows}
use Rattle.net_words.proofs.BuildLemmas.{all_left, next, fault, done}
use Rattle.net_words.proofs.WordSteps.{bit_there, still_there, rows_here, rows_whole}
use Rattle.net_words.proofs.products.add_rows.Goals as goal

pub loop-i-init : goal.loop-i-init
loop-i-init c = record {
  left = all_left (rows c.args.low c.args.first.items c.args.a.now 0 c.args.b.now) c.args.net.now;
  there = c.requires.first;
  longer = omega arith;
  width = c.requires.width;
}

pub add_row-requires-clause-bit : goal.add_row-requires-clause-bit
add_row-requires-clause-bit c = bit_there c.args.net.now c.loop-i.net c.args.b.now c.loop-i.i c.index-b-i.result c.requires.b c.loop-i.invariant.longer c.loop-i-test.true c.index-b-i.is

pub add_row-requires-clause-a : goal.add_row-requires-clause-a
add_row-requires-clause-a c = still_there c.args.net.now c.loop-i.net c.args.a.now c.requires.a c.loop-i.invariant.longer

pub returns-in_err-total-clause-builds : goal.returns-in_err-total-clause-builds
returns-in_err-total-clause-builds c =
    fault _ _ (rows_here c.args.low c.loop-i.total.items c.args.a.now c.args.b.now c.loop-i.i c.index-b-i.result c.loop-i-test.true c.index-b-i.is c.loop-i.invariant.left)
    (rw c.as_slice.ensures.value at c.in_err-total.ensures.builds) c.from_residual.ensures

pub loop-i-preserved : goal.loop-i-preserved
loop-i-preserved c = record {
  left =
      next _ _ (rows_here c.args.low c.loop-i.total.items c.args.a.now c.args.b.now c.loop-i.i c.index-b-i.result c.loop-i-test.true c.index-b-i.is c.loop-i.invariant.left)
      (rw c.as_slice.ensures.value at c.in_ok-total.ensures.builds);
  there = c.in_ok-total.ensures.inside;
  longer = le_trans c.loop-i.invariant.longer c.in_ok-total.ensures.longer;
  width = c.in_ok-total.ensures.width;
}

pub returns-clause-builds : goal.returns-clause-builds
returns-clause-builds c = done (λ w. w.items) c.loop-i.total (rows_whole c.args.low c.loop-i.total.items c.args.a.now c.args.b.now c.loop-i.i c.loop-i-test.false c.loop-i.invariant.left)
