use Rattle.std.proofs.Common.{◌≤◌}
use Rattle.solve_tests.proofs.models.models.Given as goal

abbrev pub invariant-loop-number : goal.invariant-loop-number
invariant-loop-number g l = l.count ≤ l.number
