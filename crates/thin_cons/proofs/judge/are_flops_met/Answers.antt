-- Each source is met in turn.
use Rattle.std.proofs.Common.{◌<◌, length, refl, sym, ◌∙◌, arith, below_more}
use Rattle.thin_form.specs.Netlist.{design_of}
use Rattle.thin_form.proofs.DesignOf.{length-design_of}
use Rattle.thin_cons.specs.Roles.{IsMetAt}
use Rattle.thin_cons.proofs.judge.are_flops_met.Goals as goal

pub returns-then-not-is_met_at : goal.returns-then-not-is_met_at
returns-then-not-is_met_at c =
    let within : c.loop-n.n < length (design_of c.args.design.now).sources = omega (arith, length-design_of c.args.design.now, c.sources-n-end.ensures.value, c.loop-n-test.true) in
    (λ no. absurd cc, λ met. sym c.if-not-is_met_at.true ∙ c.is_met_at.ensures.1 (met c.loop-n.n within))

pub loop-n-preserved : goal.loop-n-preserved
loop-n-preserved c = below_more (IsMetAt (design_of c.args.design.now) c.args.roles.now) _ c.loop-n.invariant (c.is_met_at.ensures.0 c.if-not-is_met_at.false)

pub returns : goal.returns
returns c = (λ _ n lt. c.loop-n.invariant n (omega (arith, lt, length-design_of c.args.design.now, c.sources-n-end.ensures.value, c.loop-n-test.false)), λ _. refl)
