use Rattle.std.proofs.Common.{◌≡◌, ◌∙◌, ap, sym, map, reverse, get_or, ℕ, false, List, ◌++◌, ◌∷◌}
use Rattle.std.proofs.lemmas.Option.{slice_get-get_or}
use Rattle.net_view.specs.declared.gate.Gate.TheVariants.{Const}
use Rattle.net_order.specs.declared.step.Step.{Step}
use Rattle.net_order.specs.declared.step.Step.TheVariants.{Visit, Leave}
use Rattle.net_order.specs.Order.{reads, fan_ins, reads_there}
use Rattle.net_order.proofs.Stepping.{put_before}
use Rattle.net_order.proofs.walk.Walk.enter.Goals as goal

pub returns-clause-steps : goal.returns-clause-steps
returns-clause-steps c =
    let gates = c.args.gates.now in
    let roots = c.args.roots.now in
    let k = c.args.k in
    let old : List Step = c.args.self.now.steps.items in
    let is : reads gates roots k ≡ fan_ins roots (get_or gates k (Const false)) = ap (reads_there roots) (slice_get-get_or gates k (Const false) c.requires.inside) in
    put_before old c.push.new.self.items c.put_fan_ins.new.steps.items k (map Visit (fan_ins roots (get_or gates k (Const false)))) c.in_ok-push.ensures.items c.in_ok-put_fan_ins.ensures
    ∙ ap (λ (js : List ℕ). map Visit js ++ (Leave k ∷ reverse old)) (sym is)
