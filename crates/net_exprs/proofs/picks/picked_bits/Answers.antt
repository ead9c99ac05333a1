use Rattle.std.proofs.Common.{◌<◌, [], ℕ, length, subst, arith, le_trans}
use Rattle.std.proofs.lemmas.List.Elements.{All-nil}
use Rattle.net_words.proofs.BuildLemmas.{IsLeft, next, fault, done}
use Rattle.net_words.proofs.WordSteps.{still_there, one_more}
use Rattle.net_exprs.specs.Selects.{picked_from}
use Rattle.net_exprs.proofs.Rows.{ahead, no_items}
use Rattle.net_exprs.proofs.PickSteps.{picked_here, picked_whole, maybe_there}
use Rattle.net_exprs.proofs.picks.picked_bits.Goals as goal

pub loop-place-init : goal.loop-place-init
loop-place-init c =
    let s = c.args.select in
    let all = picked_from c.args.hits.now s.range c.args.word.now s.width 0 s.width in
    rw c.new-out.ensures.items (record {
      left = subst (λ (k : ℕ). IsLeft all c.args.net.now c.args.net.now (ahead [] (picked_from c.args.hits.now s.range c.args.word.now s.width 0 k))) (omega arith) (no_items all c.args.net.now);
      there = All-nil (λ n. n < length c.args.net.now);
      longer = omega arith;
    })

pub picked_bit-requires-clause-word : goal.picked_bit-requires-clause-word
picked_bit-requires-clause-word c = still_there c.args.net.now c.loop-place.net c.args.word.now c.requires.word c.loop-place.invariant.longer

pub picked_bit-requires-clause-hits : goal.picked_bit-requires-clause-hits
picked_bit-requires-clause-hits c = maybe_there c.args.net.now c.loop-place.net c.args.hits.now c.requires.hits c.loop-place.invariant.longer

pub returns-in_err-bit-clause-builds : goal.returns-in_err-bit-clause-builds
returns-in_err-bit-clause-builds c =
    let s = c.args.select in
    fault _ _ (picked_here c.args.hits.now s.range c.args.word.now s.width c.loop-place.place s.width c.loop-place.out.items c.loop-place-test.true c.loop-place.invariant.left) c.in_err-bit.ensures.builds c.from_residual.ensures

pub loop-place-preserved : goal.loop-place-preserved
loop-place-preserved c =
    let s = c.args.select in
    rw c.in_ok-push.ensures.items (record {
      left = next _ _ (picked_here c.args.hits.now s.range c.args.word.now s.width c.loop-place.place s.width c.loop-place.out.items c.loop-place-test.true c.loop-place.invariant.left) c.in_ok-bit.ensures.builds;
      there = one_more c.loop-place.net c.picked_bit.new.net c.loop-place.out.items c.in_ok-bit.bit c.loop-place.invariant.there c.in_ok-bit.ensures.longer c.in_ok-bit.ensures.inside;
      longer = le_trans c.loop-place.invariant.longer c.in_ok-bit.ensures.longer;
    })

pub returns-clause-builds : goal.returns-clause-builds
returns-clause-builds c =
    let s = c.args.select in
    done (λ w. w.items) c.loop-place.out (picked_whole c.args.hits.now s.range c.args.word.now s.width c.loop-place.place s.width c.loop-place.out.items c.loop-place-test.false c.loop-place.invariant.left)
