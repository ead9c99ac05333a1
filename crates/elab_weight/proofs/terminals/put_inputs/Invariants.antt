-- What is left of the inputs decides what all give.
use Rattle.std.proofs.Common.{◌≡◌, ◌++◌, drop}
use Rattle.std.specs.List.{flat_map}
use Rattle.design_sizes.specs.Lists.{all_sized}
use Rattle.design_sizes.specs.Sizes.{sized_alone}
use Rattle.elab_weight.proofs.terminals.put_inputs.Given as goal

abbrev pub invariant-loop-e : goal.invariant-loop-e
invariant-loop-e l = all_sized l.out.items ++ flat_map (sized_alone l.design) (drop l.e-index l.es) ≡ all_sized l.fn.out.items ++ flat_map (sized_alone l.design) l.es
