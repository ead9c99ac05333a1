-- What is left of the case items decides what all labels are together.
use Rattle.std.proofs.Common.{◌≡◌, drop}
use Rattle.design_form.specs.Extents.{shape_of}
use Rattle.design_sizes.specs.Sizes.{case_shape, common_of}
use Rattle.design_sizes.specs.Lists.{labels_of}
use Rattle.design_sizes.proofs.statements.case_size.Given as goal

abbrev pub invariant-loop-arm : goal.invariant-loop-arm
invariant-loop-arm l = common_of l.design (shape_of l.size) (labels_of (drop l.arm-index l.arms)) ≡ case_shape l.design l.selector (labels_of l.arms)
