use Rattle.std.proofs.Common.{◌<◌, length, arith, le_trans, ◌∷◌, [], ℕ, subst}
use Rattle.std.proofs.lemmas.List.{length-append}
use Rattle.std.proofs.lemmas.List.Elements.{All-nil}
use Rattle.net_words.proofs.BuildLemmas.{no_bits, next, fault, done, IsLeft, behind}
use Rattle.net_words.proofs.WordSteps.{one_more}
use Rattle.net_exprs.specs.Constants.{constants, start_bits}
use Rattle.net_exprs.proofs.BitSteps.{constants_here, constants_whole}
use Rattle.net_exprs.proofs.constants.constant.Goals as goal

pub loop-place-init : goal.loop-place-init
loop-place-init c =
    let all = constants (start_bits c.args.inverse c.args.number c.args.width) in
    rw c.new-made.ensures.items (record {
      left = subst (λ (n : ℕ). IsLeft all c.args.net.now c.args.net.now (behind [] (constants (start_bits c.args.inverse c.args.number n)))) (omega arith) (no_bits all c.args.net.now);
      there = All-nil (λ n. n < length c.args.net.now);
      longer = omega arith;
      count = omega arith;
    })

pub returns-in_err-bit-clause-builds : goal.returns-in_err-bit-clause-builds
returns-in_err-bit-clause-builds c =
    fault _ _ (constants_here c.args.inverse c.args.width c.loop-place.place c.loop-place.rest c.loop-place.made.items c.loop-place-test.true c.loop-place.invariant.left)
    (rw c.lowest.ensures at c.in_err-bit.ensures.builds) c.from_residual.ensures

pub loop-place-preserved : goal.loop-place-preserved
loop-place-preserved c = rw c.in_ok-push.ensures.items (record {
  left =
      next _ _ (constants_here c.args.inverse c.args.width c.loop-place.place c.loop-place.rest c.loop-place.made.items c.loop-place-test.true c.loop-place.invariant.left)
      (rw c.lowest.ensures at c.in_ok-bit.ensures.builds);
  there = one_more c.loop-place.net c.put.new.net c.loop-place.made.items c.in_ok-bit.bit c.loop-place.invariant.there c.in_ok-bit.ensures.longer c.in_ok-bit.ensures.inside;
  longer = le_trans c.loop-place.invariant.longer c.in_ok-bit.ensures.longer;
  count = omega (arith, length-append c.loop-place.made.items (c.in_ok-bit.bit ∷ []), c.loop-place.invariant.count);
})

pub returns-clause-builds : goal.returns-clause-builds
returns-clause-builds c =
    done (λ w. w.items) c.loop-place.made
    (constants_whole c.args.inverse c.args.width c.loop-place.place c.loop-place.rest c.loop-place.made.items c.loop-place-test.false c.loop-place.invariant.left)
