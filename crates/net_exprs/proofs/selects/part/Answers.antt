use Rattle.std.proofs.Common.{◌<◌, [], ℕ, length, IfSome, Option, sym, subst, arith, le_trans}
use Rattle.std.proofs.lemmas.List.Elements.{All-nil}
use Rattle.net_words.proofs.BuildLemmas.{IsLeft, next, fault, done}
use Rattle.net_words.proofs.WordSteps.{still_there, one_more}
use Rattle.net_exprs.specs.Selects.{part_from}
use Rattle.net_exprs.proofs.Rows.{ahead, no_items}
use Rattle.net_exprs.proofs.PickSteps.{part_here, part_whole, part_bit_there}
use Rattle.net_exprs.proofs.selects.part.Goals as goal

pub loop-place-init : goal.loop-place-init
loop-place-init c =
    let all = part_from c.args.range c.args.word.now c.args.second 0 c.args.width in
    rw c.new-out.ensures.items (record {
      left = subst (λ (k : ℕ). IsLeft all c.args.net.now c.args.net.now (ahead [] (part_from c.args.range c.args.word.now c.args.second 0 k))) (omega arith) (no_items all c.args.net.now);
      there = All-nil (λ n. n < length c.args.net.now);
      longer = omega arith;
    })

pub node_or_0-requires : goal.node_or_0-requires
node_or_0-requires c =
    subst (λ (b : Option ℕ). IfSome b (λ n. n < length c.loop-place.net)) (sym c.part_bit.ensures)
    (part_bit_there c.args.range c.args.word.now c.args.second c.loop-place.place (length c.loop-place.net) (still_there c.args.net.now c.loop-place.net c.args.word.now c.requires.word c.loop-place.invariant.longer))

pub returns-in_err-bit-clause-builds : goal.returns-in_err-bit-clause-builds
returns-in_err-bit-clause-builds c =
    fault _ _ (part_here c.args.range c.args.word.now c.args.second c.loop-place.place c.args.width c.loop-place.out.items c.loop-place-test.true c.loop-place.invariant.left) (rw c.part_bit.ensures at c.in_err-bit.ensures.builds) c.from_residual.ensures

pub loop-place-preserved : goal.loop-place-preserved
loop-place-preserved c = rw c.in_ok-push.ensures.items (record {
  left = next _ _ (part_here c.args.range c.args.word.now c.args.second c.loop-place.place c.args.width c.loop-place.out.items c.loop-place-test.true c.loop-place.invariant.left) (rw c.part_bit.ensures at c.in_ok-bit.ensures.builds);
  there = one_more c.loop-place.net c.node_or_0.new.net c.loop-place.out.items c.in_ok-bit.bit c.loop-place.invariant.there c.in_ok-bit.ensures.longer c.in_ok-bit.ensures.inside;
  longer = le_trans c.loop-place.invariant.longer c.in_ok-bit.ensures.longer;
})

pub returns-clause-builds : goal.returns-clause-builds
returns-clause-builds c = done (λ w. w.items) c.loop-place.out (part_whole c.args.range c.args.word.now c.args.second c.loop-place.place c.args.width c.loop-place.out.items c.loop-place-test.false c.loop-place.invariant.left)
