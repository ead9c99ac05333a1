use Rattle.std.proofs.Common.{◌≡◌, IfOk, ap, subst, ◌∙◌}
use Rattle.elab_names.specs.Answers.{Answers}
use Rattle.elab_weight.specs.Limits.{capped, weighed}
use Rattle.elab_weight.proofs.Capped.{weighed-capped}
use Rattle.elab_weight.proofs.drivers.answered.Goals as goal

pub returns-in-Ok : goal.returns-in-Ok
returns-in-Ok c = λ n h.
    let same : c.in-Ok.weight ≡ capped n = subst (λ r. IfOk r (λ w. w ≡ capped n)) c.in-Ok.is h in
    subst (λ r. Answers (λ w. w) c.weighed.result r) (ap (weighed c.args.place) same ∙ weighed-capped c.args.place n) c.weighed.ensures
