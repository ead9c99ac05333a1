use Rattle.std.proofs.Common.{◌≡◌, ℕ, List, [], set, sym, subst}
use Rattle.std.proofs.lemmas.List.{get_or_default}
use Rattle.reset_trees.specs.Graph.{AddsSteps}
use Rattle.reset_trees.proofs.StepLemmas.{adds_step, on_ok}
use Rattle.reset_trees.proofs.graph.push_step.Goals as goal

pub returns : goal.returns
returns c =
    let steps = c.args.steps.now in
    on_ok c.push.result
    (λ is. subst (λ (row : List ℕ). AddsSteps (λ i j. (i ≡ c.args.m) × (j ≡ c.args.n)) steps (set steps c.args.m row)) (sym is)
    (adds_step steps c.args.m c.args.n _ c.requires (get_or_default steps c.args.m _ [] c.requires)))
    c.push.ensures.ok
