-- What is left decides what all give.
use Rattle.std.proofs.Common.{◌≡◌, map, drop}
use Rattle.elab_names.specs.Answers.{gathered}
use Rattle.elab_names.specs.Meanings.{frames_of}
use Rattle.elab_names.proofs.Lists.{more}
use Rattle.elab_choices.specs.Choices.{label}
use Rattle.elab_choices.proofs.choices.labels.Given as goal

abbrev pub invariant-loop-arm : goal.invariant-loop-arm
invariant-loop-arm t l =
    more (map (λ x. x.items) l.out.items) (gathered (map (λ xs. gathered (map (label (frames_of l.scope)) xs)) (map (λ a. a.labels) (drop l.arm-index l.arms))))
    ≡ gathered (map (λ xs. gathered (map (label (frames_of l.scope)) xs)) (map (λ a. a.labels) l.arms))
