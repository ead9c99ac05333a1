-- What is left of the labels decides what all give.
use Rattle.std.proofs.Common.{◌≡◌, ◌++◌, false, drop}
use Rattle.std.specs.List.{flat_map}
use Rattle.design_form.specs.Extents.{shape_of}
use Rattle.design_sizes.specs.Sizes.{sized}
use Rattle.design_sizes.specs.Lists.{all_sized}
use Rattle.design_sizes.proofs.statements.put_labels.Given as goal

abbrev pub invariant-loop-label : goal.invariant-loop-label
invariant-loop-label l =
    all_sized l.out.items ++ flat_map (sized l.design (shape_of l.size) false) (drop l.label-index l.labels) ≡ all_sized l.fn.out.items ++ flat_map (sized l.design (shape_of l.size) false) l.labels
