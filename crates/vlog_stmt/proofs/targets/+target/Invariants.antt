-- The depth falls.
use Rattle.vlog_stmt.proofs.targets.+target.Given as goal

abbrev pub decreases-target : goal.decreases-target
decreases-target l = l.room
