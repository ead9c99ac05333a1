use Rattle.std.proofs.Common.{◌≡◌, arith, length, ◌∙◌, sym, ap}
use Rattle.rdc_tern.specs.declared.value.Tern.TheVariants.{Zero}
use Rattle.rdc_tern.specs.Shifts.{raised}
use Rattle.rdc_tern.specs.Words.{sum_bit, carry_of, masked}
use Rattle.rdc_tern.proofs.WordSteps.{sum_written, sum_whole, sum_above, masked_read, masked_low, length-masked}
use Rattle.rdc_tern.proofs.sums.add_row.Goals as goal

pub loop-i-init : goal.loop-i-init
loop-i-init c =
    let row = masked c.args.bit (raised Zero c.args.places c.args.word.now) in
    let wide = length-masked c.args.bit c.args.word.now c.args.places in
    sum_above c.args.sum.now row c.args.places (c.requires ∙ sym wide) (λ k lt. masked_low c.args.bit c.args.word.now c.args.places k lt)

pub loop-i-preserved : goal.loop-i-preserved
loop-i-preserved c =
    let row = masked c.args.bit (raised Zero c.args.places c.args.word.now) in
    let wide : length row ≡ length c.args.word.now = length-masked c.args.bit c.args.word.now c.args.places in
    let bit = c.and.ensures ∙ masked_read c.args.bit c.args.word.now c.args.places c.loop-i.i _ Zero (omega arith) c.loop-i-test.true in
    sum_written c.loop-i.carry c.loop-i.sum row c.loop-i.i _ Zero _ _ _ (omega (arith, c.requires)) (omega arith)
    (c.full_adder.ensures.bit ∙ ap (sum_bit c.loop-i.carry _) bit) (c.full_adder.ensures.carry ∙ ap (carry_of c.loop-i.carry _) bit) c.loop-i.invariant

pub returns : goal.returns
returns c = sum_whole c.loop-i.carry c.loop-i.sum _ c.loop-i.i _ (omega (arith, c.requires)) c.loop-i.invariant
