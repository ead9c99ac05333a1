-- The depth falls.
use Rattle.vlog_stmt.proofs.stmts.+stmt.Given as goal

abbrev pub decreases-stmt : goal.decreases-stmt
decreases-stmt l = l.room
