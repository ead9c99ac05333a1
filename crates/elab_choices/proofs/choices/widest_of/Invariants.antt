-- What is left decides.
use Rattle.std.proofs.Common.{◌≡◌, map, drop}
use Rattle.elab_choices.specs.Choices.{widest_of}
use Rattle.elab_choices.proofs.choices.widest_of.Given as goal

abbrev pub invariant-loop-labels : goal.invariant-loop-labels
invariant-loop-labels l = widest_of l.shape (map (λ x. x.items) (drop l.labels-index l.arms)) ≡ widest_of l.fn.shape (map (λ x. x.items) l.arms)
