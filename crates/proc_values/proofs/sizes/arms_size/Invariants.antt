-- What is left of the case items decides what all labels are together.
use Rattle.std.proofs.Common.{◌≡◌, drop}
use Rattle.design_form.specs.Extents.{shape_of}
use Rattle.design_sizes.specs.Sizes.{common_of}
use Rattle.proc_cases.specs.Full.{labels_of}
use Rattle.proc_values.proofs.sizes.arms_size.Given as goal

abbrev pub invariant-loop-arm : goal.invariant-loop-arm
invariant-loop-arm l = common_of l.design (shape_of l.all) (labels_of (drop l.arm-index l.arms)) ≡ common_of l.design (shape_of l.fn.start) (labels_of l.arms)
