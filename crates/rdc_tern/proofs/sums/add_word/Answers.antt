use Rattle.std.proofs.Common.{◌≡◌, arith, length, map, ◌∙◌, sym, ap}
use Rattle.std.proofs.lemmas.List.{length-map, get_or-map}
use Rattle.rdc_tern.specs.declared.value.Tern.TheVariants.{Zero}
use Rattle.rdc_tern.specs.Kleene.{xor_of}
use Rattle.rdc_tern.specs.Words.{sum_bit, carry_of}
use Rattle.rdc_tern.proofs.WordSteps.{sum_written, sum_whole}
use Rattle.rdc_tern.proofs.sums.add_word.Goals as goal

pub loop-i-preserved : goal.loop-i-preserved
loop-i-preserved c =
    let word = map (xor_of c.args.minus) c.args.other.now in
    let wide : length word ≡ length c.args.other.now = length-map c.args.other.now (xor_of c.args.minus) in
    let bit = c.xor.ensures ∙ sym (get_or-map (xor_of c.args.minus) c.args.other.now c.loop-i.i _ Zero c.loop-i-test.true) in
    sum_written c.loop-i.carry c.loop-i.sum word c.loop-i.i _ Zero _ _ _ (omega (arith, c.requires)) (omega arith)
    (c.full_adder.ensures.bit ∙ ap (sum_bit c.loop-i.carry _) bit) (c.full_adder.ensures.carry ∙ ap (carry_of c.loop-i.carry _) bit) c.loop-i.invariant

pub returns : goal.returns
returns c = sum_whole c.loop-i.carry c.loop-i.sum _ c.loop-i.i _ (omega (arith, c.requires)) c.loop-i.invariant
