use Rattle.std.proofs.Common.{arith, le_trans}
use Rattle.net_words.specs.Words.{reduced_from}
use Rattle.net_words.proofs.BuildLemmas.{all_left, next, fault, done}
use Rattle.net_words.proofs.WordSteps.{bit_there, reduced_here, reduced_whole}
use Rattle.net_words.proofs.reductions.reduce_from.Goals as goal

pub loop-i-init : goal.loop-i-init
loop-i-init c = record {
  left = all_left (reduced_from c.args.op c.args.found c.args.word.now) c.args.net.now;
  there = c.requires.found;
  longer = omega arith;
}

pub bit-requires-clause-b : goal.bit-requires-clause-b
bit-requires-clause-b c = bit_there c.args.net.now c.loop-i.net c.args.word.now c.loop-i.i c.index-word-i.result c.requires.word c.loop-i.invariant.longer c.loop-i-test.true c.index-word-i.is

pub returns-in_err-found-clause-builds : goal.returns-in_err-found-clause-builds
returns-in_err-found-clause-builds c =
    fault _ _ (reduced_here c.args.op c.loop-i.found c.args.word.now c.loop-i.i c.index-word-i.result c.loop-i-test.true c.index-word-i.is c.loop-i.invariant.left) c.in_err-found.ensures.builds c.from_residual.ensures

pub loop-i-preserved : goal.loop-i-preserved
loop-i-preserved c = record {
  left = next _ _ (reduced_here c.args.op c.loop-i.found c.args.word.now c.loop-i.i c.index-word-i.result c.loop-i-test.true c.index-word-i.is c.loop-i.invariant.left) c.in_ok-found.ensures.builds;
  there = c.in_ok-found.ensures.inside;
  longer = le_trans c.loop-i.invariant.longer c.in_ok-found.ensures.longer;
}

pub returns-clause-builds : goal.returns-clause-builds
returns-clause-builds c = done (λ n. n) c.loop-i.found (reduced_whole c.args.op c.loop-i.found c.args.word.now c.loop-i.i c.loop-i-test.false c.loop-i.invariant.left)
