-- What is left of the targets decides what all give.
use Rattle.std.proofs.Common.{◌≡◌, ◌++◌, drop}
use Rattle.std.specs.List.{flat_map}
use Rattle.design_sizes.specs.Sizes.{sized_target}
use Rattle.design_sizes.specs.Lists.{all_sized}
use Rattle.design_sizes.proofs.statements.+targets.Given as goal

abbrev pub invariant-put_targets-loop-target : goal.invariant-put_targets-loop-target
invariant-put_targets-loop-target l = all_sized l.out.items ++ flat_map (sized_target l.design) (drop l.target-index l.targets) ≡ all_sized l.fn.out.items ++ flat_map (sized_target l.design) l.targets
