-- The depth falls.
use Rattle.std.proofs.Common.{◌+◌, ◌*◌}
use Rattle.elab_tests.proofs.statements.+stmt.Given as goal

abbrev pub decreases-stmt : goal.decreases-stmt
decreases-stmt l = 3 * l.depth

abbrev pub decreases-inner : goal.decreases-inner
decreases-inner l = 3 * l.depth + 1

abbrev pub decreases-group : goal.decreases-group
decreases-group l = 3 * l.depth + 1

abbrev pub decreases-branch : goal.decreases-branch
decreases-branch l = 3 * l.depth + 2

abbrev pub decreases-cases : goal.decreases-cases
decreases-cases l = 3 * l.depth + 2
