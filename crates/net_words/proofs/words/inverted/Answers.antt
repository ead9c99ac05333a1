use Rattle.std.proofs.Common.{length, ◌<◌, arith, le_trans, ◌∷◌, []}
use Rattle.std.proofs.lemmas.List.{length-append}
use Rattle.std.proofs.lemmas.List.Elements.{All-nil}
use Rattle.net_words.specs.Words.{inverted}
use Rattle.net_words.proofs.BuildLemmas.{no_bits, next, fault, done}
use Rattle.net_words.proofs.WordSteps.{one_more, bit_there, inverted_here, inverted_whole}
use Rattle.net_words.proofs.words.inverted.Goals as goal

pub loop-i-init : goal.loop-i-init
loop-i-init c = rw c.new-made.ensures.items (record {
  left = no_bits (inverted c.args.word.now) c.args.net.now;
  there = All-nil (λ n. n < length c.args.net.now);
  longer = omega arith;
  count = omega arith;
})

pub put-requires : goal.put-requires
put-requires c = bit_there c.args.net.now c.loop-i.net c.args.word.now c.loop-i.i c.index-word-i.result c.requires c.loop-i.invariant.longer c.loop-i-test.true c.index-word-i.is

pub returns-in_err-n-clause-builds : goal.returns-in_err-n-clause-builds
returns-in_err-n-clause-builds c = fault _ _ (inverted_here c.args.word.now c.loop-i.made.items c.loop-i.i c.index-word-i.result c.loop-i-test.true c.index-word-i.is c.loop-i.invariant.left) c.in_err-n.ensures.builds c.from_residual.ensures

pub loop-i-preserved : goal.loop-i-preserved
loop-i-preserved c = rw c.in_ok-push.ensures.items (record {
  left = next _ _ (inverted_here c.args.word.now c.loop-i.made.items c.loop-i.i c.index-word-i.result c.loop-i-test.true c.index-word-i.is c.loop-i.invariant.left) c.in_ok-n.ensures.builds;
  there = one_more c.loop-i.net c.put.new.net c.loop-i.made.items c.in_ok-n.n c.loop-i.invariant.there c.in_ok-n.ensures.longer c.in_ok-n.ensures.inside;
  longer = le_trans c.loop-i.invariant.longer c.in_ok-n.ensures.longer;
  count = omega (arith, length-append c.loop-i.made.items (c.in_ok-n.n ∷ []), c.loop-i.invariant.count);
})

pub returns-clause-builds : goal.returns-clause-builds
returns-clause-builds c = done (λ w. w.items) c.loop-i.made (inverted_whole c.args.word.now c.loop-i.made.items c.loop-i.i c.loop-i-test.false c.loop-i.invariant.left)
