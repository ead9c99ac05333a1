-- The weight of the parts so far.
use Rattle.std.proofs.Common.{◌≡◌, ◌+◌, take}
use Rattle.std.specs.List.{sum_by}
use Rattle.design_sizes.specs.Lists.{sized_of}
use Rattle.elab_weight.specs.Limits.{capped}
use Rattle.elab_weight.specs.PartWeights.{part_weight}
use Rattle.elab_weight.proofs.parts.parts_weight.Given as goal

abbrev pub invariant-loop-part : goal.invariant-loop-part
invariant-loop-part l = l.weight ≡ capped (l.so_far + sum_by (λ p. part_weight l.design (sized_of p)) (take l.part-index l.parts))
