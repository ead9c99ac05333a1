-- What is left decides what all give.
use Rattle.std.proofs.Common.{◌≡◌, map, drop}
use Rattle.elab_names.specs.Answers.{gathered}
use Rattle.elab_names.proofs.Lists.{more}
use Rattle.elab_choices.specs.Choices.{equal}
use Rattle.elab_choices.proofs.choices.equals.Given as goal

abbrev pub invariant-loop-label : goal.invariant-loop-label
invariant-loop-label l = more l.out.items (gathered (map (equal l.context l.bits) (drop l.label-index l.labels))) ≡ gathered (map (equal l.context l.bits) l.labels)
