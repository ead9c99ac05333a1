use Rattle.std.proofs.Common.{◌≡◌, length, ap, ◌∙◌, sym, subst, List, ℕ, arith, le_trans}
use Rattle.net_words.specs.Builds.{AreThere}
use Rattle.net_words.proofs.BuildLemmas.{next, fault, done}
use Rattle.net_words.proofs.WordSteps.{bit_there}
use Rattle.net_words.proofs.ShiftSteps.{length-moved, moved_there, shift_here, shift_whole, twice}
use Rattle.net_words.proofs.shifts.shift.Goals as goal

pub select-requires-clause-width : goal.select-requires-clause-width
select-requires-clause-width c =
    let far-is = rw c.as_slice.ensures.value at c.in_ok-far.ensures.items in
    rw (c.as_slice-in-loop-i.ensures.value, c.as_slice-in-loop-i-2.ensures.value) (ap length far-is ∙ length-moved c.args.toward c.args.fill c.loop-i.distance c.loop-i.shifted.items)

pub select-requires-clause-a : goal.select-requires-clause-a
select-requires-clause-a c =
    let far-is = rw c.as_slice.ensures.value at c.in_ok-far.ensures.items in
    subst (λ (w : List ℕ). AreThere c.loop-i.net w) (sym (c.as_slice-in-loop-i.ensures.value ∙ far-is))
    (moved_there c.loop-i.net c.args.toward c.args.fill c.loop-i.distance c.loop-i.shifted.items (omega (arith, c.requires.fill, c.loop-i.invariant.longer)) c.loop-i.invariant.there)

pub select-requires-clause-s : goal.select-requires-clause-s
select-requires-clause-s c = bit_there c.args.net.now c.loop-i.net c.args.amount.now c.loop-i.i c.index-amount-i.result c.requires.amount c.loop-i.invariant.longer c.loop-i-test.true c.index-amount-i.is

pub returns-in_err-shifted-2-clause-builds : goal.returns-in_err-shifted-2-clause-builds
returns-in_err-shifted-2-clause-builds c =
    let far-is = rw c.as_slice.ensures.value at c.in_ok-far.ensures.items in
    fault _ _ (shift_here c.args.toward c.args.fill c.loop-i.shifted.items c.in_ok-far.far.items c.args.amount.now c.loop-i.i c.loop-i.distance c.index-amount-i.result c.loop-i-test.true c.index-amount-i.is c.loop-i.invariant.distance far-is c.loop-i.invariant.left)
    (rw (c.as_slice-in-loop-i.ensures.value, c.as_slice-in-loop-i-2.ensures.value) at c.in_err-shifted-2.ensures.builds) c.from_residual-in_err-shifted-2.ensures

pub loop-i-preserved : goal.loop-i-preserved
loop-i-preserved c =
    let far-is = rw c.as_slice.ensures.value at c.in_ok-far.ensures.items in
    let far-wide : length c.in_ok-far.far.items ≡ length c.loop-i.shifted.items = ap length far-is ∙ length-moved c.args.toward c.args.fill c.loop-i.distance c.loop-i.shifted.items in
    let wide : length c.in_ok-shifted-2.shifted.items ≡ length c.args.word.now = c.in_ok-shifted-2.ensures.width ∙ ap length c.as_slice-in-loop-i.ensures.value ∙ far-wide ∙ c.loop-i.invariant.width in
    record {
      left =
          next _ _ (shift_here c.args.toward c.args.fill c.loop-i.shifted.items c.in_ok-far.far.items c.args.amount.now c.loop-i.i c.loop-i.distance c.index-amount-i.result c.loop-i-test.true c.index-amount-i.is c.loop-i.invariant.distance far-is c.loop-i.invariant.left)
          (rw (c.as_slice-in-loop-i.ensures.value, c.as_slice-in-loop-i-2.ensures.value) at c.in_ok-shifted-2.ensures.builds);
      there = c.in_ok-shifted-2.ensures.inside;
      longer = le_trans c.loop-i.invariant.longer c.in_ok-shifted-2.ensures.longer;
      width = wide;
      distance = twice c.doubled-distance.result c.loop-i.distance (length c.args.word.now) (length c.in_ok-shifted-2.shifted.items) c.loop-i.i wide (rw c.loop-i.invariant.width at c.loop-i.invariant.distance) c.doubled-distance.ensures;
    }

pub returns-clause-builds : goal.returns-clause-builds
returns-clause-builds c = done (λ w. w.items) c.loop-i.shifted (shift_whole c.args.toward c.args.fill c.loop-i.shifted.items c.args.amount.now c.loop-i.i c.loop-i-test.false c.loop-i.invariant.left)
