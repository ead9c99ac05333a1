-- What is left of the labels decides what all are together.
use Rattle.std.proofs.Common.{◌≡◌, drop}
use Rattle.design_form.specs.Extents.{shape_of}
use Rattle.design_sizes.specs.Sizes.{common_of}
use Rattle.proc_values.proofs.sizes.labels_size.Given as goal

abbrev pub invariant-loop-label : goal.invariant-loop-label
invariant-loop-label l = common_of l.design (shape_of l.all) (drop l.label-index l.labels) ≡ common_of l.design (shape_of l.fn.start) l.labels
