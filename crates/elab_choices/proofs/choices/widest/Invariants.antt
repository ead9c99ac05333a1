-- What is left decides.
use Rattle.std.proofs.Common.{◌≡◌, drop}
use Rattle.elab_choices.specs.Choices.{widest}
use Rattle.elab_choices.proofs.choices.widest.Given as goal

abbrev pub invariant-loop-label : goal.invariant-loop-label
invariant-loop-label l = widest l.shape (drop l.label-index l.labels) ≡ widest l.fn.shape l.labels
