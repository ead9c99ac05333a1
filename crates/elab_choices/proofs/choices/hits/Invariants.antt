-- What is left decides what all give.
use Rattle.std.proofs.Common.{◌≡◌, map, drop}
use Rattle.elab_names.specs.Answers.{gathered}
use Rattle.elab_names.proofs.Lists.{more}
use Rattle.elab_choices.specs.Choices.{any_equal}
use Rattle.elab_choices.proofs.choices.hits.Given as goal

abbrev pub invariant-loop-labels : goal.invariant-loop-labels
invariant-loop-labels l = more l.out.items (gathered (map (any_equal l.context l.bits) (map (λ x. x.items) (drop l.labels-index l.arms)))) ≡ gathered (map (any_equal l.context l.bits) (map (λ x. x.items) l.arms))
