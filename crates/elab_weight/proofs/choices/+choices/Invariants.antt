-- The weight of those so far.
use Rattle.std.proofs.Common.{◌≡◌, ◌+◌, take}
use Rattle.std.specs.List.{sum_by}
use Rattle.elab_weight.specs.Limits.{capped}
use Rattle.elab_weight.specs.Choices.{arm_of, choice_weight}
use Rattle.elab_weight.proofs.choices.+choices.Given as goal

abbrev pub invariant-arms_weight-loop-arm : goal.invariant-arms_weight-loop-arm
invariant-arms_weight-loop-arm l = l.weight ≡ capped (0 + sum_by (arm_of l.design l.bits l.width) (take l.arm-index l.arms))

abbrev pub invariant-each_weight-loop-s : goal.invariant-each_weight-loop-s
invariant-each_weight-loop-s l = l.weight ≡ capped (0 + sum_by (choice_weight l.design l.bits) (take l.s-index l.ss))
