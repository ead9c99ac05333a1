-- What is left decides where the end is.
use Rattle.std.proofs.Common.{◌≡◌, ◌+◌, length}
use Rattle.vlog_lex.specs.Comments.{close_from}
use Rattle.vlog_lex.proofs.comments.close.Given as goal

abbrev pub invariant-loop-rest : goal.invariant-loop-rest
invariant-loop-rest l = record { left : close_from l.count l.rest ≡ close_from 0 l.bytes; counted : l.count + length l.rest ≡ length l.bytes }

abbrev pub decreases-loop-rest : goal.decreases-loop-rest
decreases-loop-rest l = length l.rest
