-- What was counted and what is left are the rows.
use Rattle.std.proofs.Common.{◌≡◌, ◌+◌, ◌≤◌, length}
use Rattle.cons_file.specs.Lines.{lines_of, rows_from}
use Rattle.cons_file.proofs.scanner.count_rows.Given as goal

abbrev pub invariant-loop-next : goal.invariant-loop-next
invariant-loop-next l = record {
  counted : l.count + length (rows_from l.number (lines_of l.rest)) ≡ length (rows_from 1 (lines_of l.bytes));
  within : l.number + length l.rest ≤ 1 + length l.bytes;
  few : l.count + length l.rest ≤ length l.bytes;
}

abbrev pub decreases-loop-next : goal.decreases-loop-next
decreases-loop-next l = length l.rest
