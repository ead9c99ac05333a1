use Rattle.std.proofs.Common.{length, ◌<◌, arith, le_trans, ◌∷◌, []}
use Rattle.std.proofs.lemmas.List.{length-append}
use Rattle.std.proofs.lemmas.List.Elements.{All-nil}
use Rattle.net_words.specs.Words.{select}
use Rattle.net_words.proofs.BuildLemmas.{no_bits, next, fault, done}
use Rattle.net_words.proofs.WordSteps.{one_more, bit_there, select_here, select_whole}
use Rattle.net_words.proofs.words.select.Goals as goal

pub loop-i-init : goal.loop-i-init
loop-i-init c = rw c.new-made.ensures.items (record {
  left = no_bits (select c.args.s c.args.a.now c.args.b.now) c.args.net.now;
  there = All-nil (λ n. n < length c.args.net.now);
  longer = omega arith;
  count = omega arith;
})

pub mux-requires-clause-a : goal.mux-requires-clause-a
mux-requires-clause-a c = bit_there c.args.net.now c.loop-i.net c.args.a.now c.loop-i.i c.index-a-i.result c.requires.a c.loop-i.invariant.longer c.loop-i-test.true c.index-a-i.is

pub mux-requires-clause-b : goal.mux-requires-clause-b
mux-requires-clause-b c = bit_there c.args.net.now c.loop-i.net c.args.b.now c.loop-i.i c.index-b-i.result c.requires.b c.loop-i.invariant.longer (omega (arith, c.requires.width)) c.index-b-i.is

pub returns-in_err-n-clause-builds : goal.returns-in_err-n-clause-builds
returns-in_err-n-clause-builds c = fault _ _ (select_here c.args.s c.args.a.now c.args.b.now c.loop-i.made.items c.loop-i.i c.index-a-i.result c.index-b-i.result c.loop-i-test.true (omega (arith, c.requires.width)) c.index-a-i.is c.index-b-i.is c.loop-i.invariant.left) c.in_err-n.ensures.builds c.from_residual.ensures

pub loop-i-preserved : goal.loop-i-preserved
loop-i-preserved c = rw c.in_ok-push.ensures.items (record {
  left = next _ _ (select_here c.args.s c.args.a.now c.args.b.now c.loop-i.made.items c.loop-i.i c.index-a-i.result c.index-b-i.result c.loop-i-test.true (omega (arith, c.requires.width)) c.index-a-i.is c.index-b-i.is c.loop-i.invariant.left) c.in_ok-n.ensures.builds;
  there = one_more c.loop-i.net c.mux.new.net c.loop-i.made.items c.in_ok-n.n c.loop-i.invariant.there c.in_ok-n.ensures.longer c.in_ok-n.ensures.inside;
  longer = le_trans c.loop-i.invariant.longer c.in_ok-n.ensures.longer;
  count = omega (arith, length-append c.loop-i.made.items (c.in_ok-n.n ∷ []), c.loop-i.invariant.count);
})

pub returns-clause-builds : goal.returns-clause-builds
returns-clause-builds c = done (λ w. w.items) c.loop-i.made (select_whole c.args.s c.args.a.now c.args.b.now c.loop-i.made.items c.loop-i.i c.loop-i-test.false c.loop-i.invariant.left)
