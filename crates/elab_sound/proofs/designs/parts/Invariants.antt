-- What is left of the parts decides what all answer.
use Rattle.std.proofs.Common.{◌≡◌, drop}
use Rattle.design_sizes.specs.Lists.{all_sized, sized_of}
use Rattle.elab_sound.specs.Selects.{checked}
use Rattle.elab_sound.specs.Sound.{all_checked}
use Rattle.elab_sound.proofs.designs.parts.Given as goal

abbrev pub invariant-loop-part : goal.invariant-loop-part
invariant-loop-part l = all_checked (λ p. checked l.design (sized_of p)) (drop l.part-index l.parts) ≡ all_checked (checked l.design) (all_sized l.parts)
