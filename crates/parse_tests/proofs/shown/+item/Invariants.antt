-- The depth falls.
use Rattle.std.proofs.Common.{◌+◌, ◌*◌}
use Rattle.parse_tests.proofs.shown.+item.Given as goal

abbrev pub decreases-item : goal.decreases-item
decreases-item l = 4 * l.depth

abbrev pub decreases-items : goal.decreases-items
decreases-items l = 4 * l.depth + 1

abbrev pub decreases-block : goal.decreases-block
decreases-block l = 4 * l.depth + 2

abbrev pub decreases-choice : goal.decreases-choice
decreases-choice l = 4 * l.depth + 3

abbrev pub decreases-cases : goal.decreases-cases
decreases-cases l = 4 * l.depth + 3
