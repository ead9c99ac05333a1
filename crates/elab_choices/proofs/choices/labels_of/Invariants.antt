-- What is left decides what all give.
use Rattle.std.proofs.Common.{◌≡◌, map, drop}
use Rattle.elab_names.specs.Answers.{gathered}
use Rattle.elab_names.specs.Meanings.{frames_of}
use Rattle.elab_names.proofs.Lists.{more}
use Rattle.elab_choices.specs.Choices.{label}
use Rattle.elab_choices.proofs.choices.labels_of.Given as goal

abbrev pub invariant-loop-e : goal.invariant-loop-e
invariant-loop-e l = more l.out.items (gathered (map (label (frames_of l.scope)) (drop l.e-index l.es))) ≡ gathered (map (label (frames_of l.scope)) l.es)
