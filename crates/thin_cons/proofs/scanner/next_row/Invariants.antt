-- Blank lines leave the rows as they are.
use Rattle.std.proofs.Common.{◌≡◌, ◌≤◌, length}
use Rattle.thin_cons.specs.Lines.{rows_of}
use Rattle.thin_cons.proofs.scanner.next_row.Given as goal

abbrev pub invariant-loop-rest : goal.invariant-loop-rest
invariant-loop-rest l = record { same : rows_of l.rest ≡ rows_of l.bytes; shorter : length l.rest ≤ length l.bytes }

abbrev pub decreases-loop-rest : goal.decreases-loop-rest
decreases-loop-rest l = length l.rest
