-- The depth falls.
use Rattle.std.proofs.Common.{◌+◌, ◌*◌}
use Rattle.vlog_tests.proofs.shown_expr.+show.Given as goal

abbrev pub decreases-show : goal.decreases-show
decreases-show l = 3 * l.depth

abbrev pub decreases-show_next : goal.decreases-show_next
decreases-show_next l = 3 * l.depth + 1

abbrev pub decreases-show_all : goal.decreases-show_all
decreases-show_all l = 3 * l.depth + 2

abbrev pub decreases-one : goal.decreases-one
decreases-one l = 3 * l.depth + 2

abbrev pub decreases-two : goal.decreases-two
decreases-two l = 3 * l.depth + 2
