use Rattle.std.proofs.Common.{◌+◌, ◌-◌, ◌^◌, min, ap, ◌∙◌, arith}
use Rattle.elab_weight.specs.Reaches.{Reach, between}
use Rattle.elab_weight.proofs.ReachLemmas.{downwards}
use Rattle.elab_weight.proofs.reaches.reached_downwards.Goals as goal

pub returns : goal.returns
returns c = λ y same.
    c.between.ensures.value
    ∙ ap (λ k. between k c.saturating_sub-2.result c.args.numbers.now) (c.saturating_sub.ensures ∙ ap (λ k. ((c.args.lsb + 1) - k)) (ap (λ (r : Reach). r.high) same))
    ∙ ap (λ k. between ((c.args.lsb + 1) - min y.high (2 ^ 128 - 1)) k c.args.numbers.now) (c.saturating_sub-2.ensures ∙ ap (λ k. ((c.args.lsb + 1) - k)) (ap (λ (r : Reach). r.low) same))
    ∙ downwards c.args.numbers.now y.low y.high c.args.lsb (2 ^ 128 - 1) (omega (arith, c.ranges.lsb.fits))
