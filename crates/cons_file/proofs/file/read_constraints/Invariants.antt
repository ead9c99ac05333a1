-- What is read and what is left are the rows of the file.
use Rattle.std.proofs.Common.{◌+◌, ◌≤◌, map, length}
use Rattle.cons_file.specs.Lines.{lines_of, rows_from, rows_of}
use Rattle.cons_file.specs.File.{stated}
use Rattle.cons_file.proofs.FileLemmas.{SoFar}
use Rattle.cons_file.proofs.file.read_constraints.Given as goal

abbrev pub invariant-loop-row : goal.invariant-loop-row
invariant-loop-row l = record {
  read : SoFar (rows_of l.bytes) (rows_from l.number (lines_of l.rest)) (map stated l.lines.items);
  within : l.number + length l.rest ≤ 1 + length l.bytes;
}

abbrev pub decreases-loop-row : goal.decreases-loop-row
decreases-loop-row l = length l.rest
