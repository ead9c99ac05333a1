-- The depth falls.
use Rattle.std.proofs.Common.{◌+◌, ◌*◌}
use Rattle.elab_tests.proofs.shown.+expr.Given as goal

abbrev pub decreases-expr : goal.decreases-expr
decreases-expr l = 3 * l.depth

abbrev pub decreases-index : goal.decreases-index
decreases-index l = 3 * l.depth + 1

abbrev pub decreases-between : goal.decreases-between
decreases-between l = 3 * l.depth + 1

abbrev pub decreases-choice : goal.decreases-choice
decreases-choice l = 3 * l.depth + 2

abbrev pub decreases-exprs : goal.decreases-exprs
decreases-exprs l = 3 * l.depth + 1
