use Rattle.std.proofs.Common.{take}
use Rattle.reset_trees.specs.Graph.{AddsSteps}
use Rattle.reset_trees.specs.PinSteps.{IsPinStep}
use Rattle.reset_trees.proofs.domain.followers.Given as goal

abbrev pub invariant-pins : goal.invariant-pins
invariant-pins l = AddsSteps (IsPinStep (take l.pin-index l.pins)) l.initial.steps.items l.steps.items
