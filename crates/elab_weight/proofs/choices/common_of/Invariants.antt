-- What is left of the expressions decides what all have in common.
use Rattle.std.proofs.Common.{◌≡◌, drop}
use Rattle.design_form.specs.Extents.{shape_of}
use Rattle.design_sizes.specs.Sizes.{common_of}
use Rattle.elab_weight.proofs.choices.common_of.Given as goal

abbrev pub invariant-loop-e : goal.invariant-loop-e
invariant-loop-e l = common_of l.design (shape_of l.context) (drop l.e-index l.es) ≡ common_of l.design (shape_of l.initial.context) l.es
