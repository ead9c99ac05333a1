-- What is left decides the value.
use Rattle.std.proofs.Common.{◌≡◌, ◌≤◌, length}
use Rattle.vlog_lex.specs.Numbers.{value_from}
use Rattle.vlog_expr.proofs.numbers.value_of.Given as goal

abbrev pub invariant-loop-rest : goal.invariant-loop-rest
invariant-loop-rest l = record { left : value_from l.value l.rest ≡ value_from 0 l.digits; small : l.value ≤ l.most }

abbrev pub decreases-loop-rest : goal.decreases-loop-rest
decreases-loop-rest l = length l.rest
