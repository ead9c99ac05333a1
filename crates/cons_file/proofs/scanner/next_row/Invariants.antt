-- Blank lines leave the rows as they are.
use Rattle.std.proofs.Common.{◌≡◌, ◌+◌, ◌≤◌, length}
use Rattle.cons_file.specs.Lines.{lines_of, rows_from}
use Rattle.cons_file.proofs.scanner.next_row.Given as goal

abbrev pub invariant-loop-rest : goal.invariant-loop-rest
invariant-loop-rest l = record {
  same : rows_from l.number (lines_of l.rest) ≡ rows_from l.fn.number (lines_of l.bytes);
  within : l.number + length l.rest ≤ l.fn.number + length l.bytes;
  shorter : length l.rest ≤ length l.bytes;
}

abbrev pub decreases-loop-rest : goal.decreases-loop-rest
decreases-loop-rest l = length l.rest
