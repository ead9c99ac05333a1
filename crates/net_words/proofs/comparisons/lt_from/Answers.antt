use Rattle.std.proofs.Common.{arith, le_trans}
use Rattle.net_words.specs.Comparisons.{lt_from}
use Rattle.net_words.proofs.BuildLemmas.{all_left, next, fault, done}
use Rattle.net_words.proofs.WordSteps.{bit_there, lt_here, lt_whole}
use Rattle.net_words.proofs.comparisons.lt_from.Goals as goal

pub loop-i-init : goal.loop-i-init
loop-i-init c = record {
  left = all_left (lt_from c.args.first c.args.a.now c.args.b.now) c.args.net.now;
  there = c.requires.first;
  longer = omega arith;
}

pub lt_bit-requires-clause-a : goal.lt_bit-requires-clause-a
lt_bit-requires-clause-a c = bit_there c.args.net.now c.loop-i.net c.args.a.now c.loop-i.i c.index-a-i.result c.requires.a c.loop-i.invariant.longer c.loop-i-test.true c.index-a-i.is

pub lt_bit-requires-clause-b : goal.lt_bit-requires-clause-b
lt_bit-requires-clause-b c = bit_there c.args.net.now c.loop-i.net c.args.b.now c.loop-i.i c.index-b-i.result c.requires.b c.loop-i.invariant.longer (omega (arith, c.requires.width)) c.index-b-i.is

pub returns-in_err-less-clause-builds : goal.returns-in_err-less-clause-builds
returns-in_err-less-clause-builds c =
    fault _ _ (lt_here c.loop-i.less c.args.a.now c.args.b.now c.loop-i.i c.index-a-i.result c.index-b-i.result c.loop-i-test.true (omega (arith, c.requires.width)) c.index-a-i.is c.index-b-i.is c.loop-i.invariant.left)
    c.in_err-less.ensures.builds c.from_residual.ensures

pub loop-i-preserved : goal.loop-i-preserved
loop-i-preserved c = record {
  left =
      next _ _ (lt_here c.loop-i.less c.args.a.now c.args.b.now c.loop-i.i c.index-a-i.result c.index-b-i.result c.loop-i-test.true (omega (arith, c.requires.width)) c.index-a-i.is c.index-b-i.is c.loop-i.invariant.left) c.in_ok-less.ensures.builds;
  there = c.in_ok-less.ensures.inside;
  longer = le_trans c.loop-i.invariant.longer c.in_ok-less.ensures.longer;
}

pub returns-clause-builds : goal.returns-clause-builds
returns-clause-builds c = done (λ n. n) c.loop-i.less (lt_whole c.loop-i.less c.args.a.now c.args.b.now c.loop-i.i c.loop-i-test.false c.loop-i.invariant.left)
