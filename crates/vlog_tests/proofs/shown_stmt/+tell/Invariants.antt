-- The depth falls.
use Rattle.std.proofs.Common.{◌+◌, ◌*◌}
use Rattle.vlog_tests.proofs.shown_stmt.+tell.Given as goal

abbrev pub decreases-tell : goal.decreases-tell
decreases-tell l = 3 * l.depth

abbrev pub decreases-tell_next : goal.decreases-tell_next
decreases-tell_next l = 3 * l.depth + 1

abbrev pub decreases-tell_all : goal.decreases-tell_all
decreases-tell_all l = 3 * l.depth + 2

abbrev pub decreases-tell_arms : goal.decreases-tell_arms
decreases-tell_arms l = 3 * l.depth + 2

abbrev pub decreases-tell_sides : goal.decreases-tell_sides
decreases-tell_sides l = 3 * l.depth + 2
