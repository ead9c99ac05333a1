use Rattle.std.proofs.Common.{ap, sym, ◌∙◌}
use Rattle.thin_form.specs.Numbers.{terms_of}
use Rattle.thin_form.specs.Listed.{lists}
use Rattle.thin_form.proofs.Faults.{passed_on}
use Rattle.thin_form.proofs.Terms.{terms_more, terms_stop, terms_done}
use Rattle.thin_form.proofs.rules.terms.Goals as goal

pub returns-in-Err-clause-not_of_form : goal.returns-in-Err-clause-not_of_form
returns-in-Err-clause-not_of_form c = λ fault.
    ap (terms_of (lists c.args.names.now)) (sym c.steps-steps.ensures.whole ∙ sym c.steps-steps.ensures.value)
    ∙ terms_stop (lists c.args.names.now) c.steps-steps.result.now c.loop-step.step-index _ _ c.loop-step-test.true c.loop-step.out.items c.loop-step.invariant (c.in-Err.ensures.not_of_form (passed_on _ _ fault))

pub loop-step-preserved : goal.loop-step-preserved
loop-step-preserved c = terms_more (lists c.args.names.now) c.steps-steps.result.now c.loop-step.step-index _ _ c.loop-step-test.true c.loop-step.out.items c.push.new.out.items c.loop-step.invariant c.in-Ok.ensures.terms

pub returns-clause-terms : goal.returns-clause-terms
returns-clause-terms c =
    ap (terms_of (lists c.args.names.now)) (sym c.steps-steps.ensures.whole ∙ sym c.steps-steps.ensures.value)
    ∙ terms_done (lists c.args.names.now) c.steps-steps.result.now c.loop-step.step-index _ c.loop-step.out.items c.loop-step-test.false c.loop-step.invariant
