-- What is left of the case items decides what all have in common.
use Rattle.std.proofs.Common.{◌≡◌, drop}
use Rattle.std.specs.List.{flat_map}
use Rattle.design_form.specs.Extents.{shape_of}
use Rattle.design_sizes.specs.Sizes.{case_shape, common_of}
use Rattle.elab_weight.proofs.choices.case_width.Given as goal

abbrev pub invariant-loop-arm : goal.invariant-loop-arm
invariant-loop-arm l = common_of l.design (shape_of l.context) (flat_map (λ a. a.labels) (drop l.arm-index l.arms)) ≡ case_shape l.design l.selector (flat_map (λ a. a.labels) l.arms)
