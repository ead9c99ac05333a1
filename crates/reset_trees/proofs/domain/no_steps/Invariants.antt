use Rattle.std.proofs.Common.{◌≡◌, All, [], length}
use Rattle.reset_trees.proofs.domain.no_steps.Given as goal

abbrev pub invariant-steps : goal.invariant-steps
invariant-steps l = record { count : length l.steps.items ≡ l._made; each : All (λ x. x ≡ []) l.steps.items }
