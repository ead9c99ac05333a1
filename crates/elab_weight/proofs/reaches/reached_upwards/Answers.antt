use Rattle.std.proofs.Common.{◌-◌, ◌^◌, min, ap, ◌∙◌, arith}
use Rattle.elab_weight.specs.Reaches.{Reach, between}
use Rattle.elab_weight.proofs.ReachLemmas.{upwards}
use Rattle.elab_weight.proofs.reaches.reached_upwards.Goals as goal

pub returns : goal.returns
returns c = λ y same.
    c.between.ensures.value
    ∙ ap (λ k. between k c.saturating_sub-2.result c.args.numbers.now) (c.saturating_sub.ensures ∙ ap (λ k. (k - c.args.lsb)) (ap (λ (r : Reach). r.low) same))
    ∙ ap (λ k. between (min y.low (2 ^ 128 - 1) - c.args.lsb) k c.args.numbers.now) (c.saturating_sub-2.ensures ∙ ap (λ k. (k - c.args.lsb)) (ap (λ (r : Reach). r.high) same))
    ∙ upwards c.args.numbers.now y.low y.high c.args.lsb (2 ^ 128 - 1) (omega (arith, c.ranges.lsb.fits, c.between.ensures.size))
