use Rattle.std.proofs.Common.{ℕ, length, None, ◌∙◌, sym, ap}
use Rattle.design_form.specs.Extents.{shape_of}
use Rattle.net_words.proofs.BuildLemmas.{next, fault, done}
use Rattle.net_exprs.specs.Constants.{start_bits}
use Rattle.net_exprs.proofs.PickSteps.{hit_not, hit_so}
use Rattle.net_exprs.proofs.picks.hit.Goals as goal

pub returns-then-not-may_be-clause-builds : goal.returns-then-not-may_be-clause-builds
returns-then-not-may_be-clause-builds c =
    done (λ h. h) None
    (hit_not c.args.net.now c.args.select.part c.args.select.range c.args.select.width (shape_of c.args.extent) c.args.index.now c.args.number
    (c.start_of-start.ensures.possible (shape_of c.args.extent) ∙ sym c.may_be.ensures ∙ c.if-not-may_be.true))

pub returns-in_err-equal-clause-builds : goal.returns-in_err-equal-clause-builds
returns-in_err-equal-clause-builds c =
    fault _ _
    (hit_so c.args.net.now c.args.select.part c.args.select.range c.args.select.width (shape_of c.args.extent) c.args.index.now c.args.number
    (start_bits c.start_of-start.result.below c.start_of-start.result.distance (length c.args.index.now))
    (c.start_of-start.ensures.possible (shape_of c.args.extent) ∙ sym c.may_be.ensures ∙ c.if-not-may_be.false)
    (c.start_of-start.ensures.word c.args.extent.width ∙ ap (λ (n : ℕ). start_bits c.start_of-start.result.below c.start_of-start.result.distance n) (sym c.requires.width)))
    c.in_err-equal.ensures.builds c.from_residual.ensures

pub returns-clause-builds : goal.returns-clause-builds
returns-clause-builds c =
    done (λ h. h) _
    (next _ _
    (hit_so c.args.net.now c.args.select.part c.args.select.range c.args.select.width (shape_of c.args.extent) c.args.index.now c.args.number
    (start_bits c.start_of-start.result.below c.start_of-start.result.distance (length c.args.index.now))
    (c.start_of-start.ensures.possible (shape_of c.args.extent) ∙ sym c.may_be.ensures ∙ c.if-not-may_be.false)
    (c.start_of-start.ensures.word c.args.extent.width ∙ ap (λ (n : ℕ). start_bits c.start_of-start.result.below c.start_of-start.result.distance n) (sym c.requires.width)))
    c.in_ok-equal.ensures.builds)
