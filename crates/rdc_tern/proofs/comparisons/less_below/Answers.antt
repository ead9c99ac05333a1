use Rattle.std.proofs.Common.{◌≡◌, arith, subst, ℕ, take}
use Rattle.rdc_tern.specs.Words.{lt_of}
use Rattle.rdc_tern.proofs.WordSteps.{lt_more}
use Rattle.rdc_tern.proofs.comparisons.less_below.Goals as goal

pub loop-i-preserved : goal.loop-i-preserved
loop-i-preserved c = lt_more c.args.a.now c.args.b.now c.loop-i.i _ _ c.loop-i.less _ (omega (arith, c.requires.a)) (omega (arith, c.requires.b)) c.loop-i.invariant c.less_by-less.ensures

pub returns : goal.returns
returns c =
    let end : c.loop-i.i ≡ c.args.end = omega arith in
    subst (λ (i : ℕ). c.loop-i.less ≡ lt_of (take i c.args.a.now) (take i c.args.b.now)) end c.loop-i.invariant
