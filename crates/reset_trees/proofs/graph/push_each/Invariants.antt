use Rattle.std.proofs.Common.{◌≡◌, take, Contains}
use Rattle.reset_trees.specs.Graph.{AddsSteps}
use Rattle.reset_trees.proofs.graph.push_each.Given as goal

abbrev pub invariant-numbers : goal.invariant-numbers
invariant-numbers l = AddsSteps (λ i j. Contains (take l.m-index l.numbers) i × (j ≡ l.n)) l.initial.steps l.steps
