-- The turns so far, and that they end.
use Rattle.std.proofs.Common.{◌≡◌, ◌+◌, ◌-◌, ◌*◌, ◌<◌, ◌≤◌, Ok, length, map}
use Rattle.std.specs.String.{string_bytes}
use Rattle.vlog_pre.specs.Known.{state_of}
use Rattle.vlog_pre.specs.Turns.{IsTurn}
use Rattle.vlog_pre.proofs.expansion.run.Given as goal

abbrev pub invariant-turns : goal.invariant-turns
invariant-turns g l = record {
  reached : IsTurn (g.S.Shelf.files l.initial.shelf) (g.S.Shelf.calls l.initial.shelf) (state_of l.initial.known) l.initial.reader.items (Ok tt) (state_of l.known) (map string_bytes l.files) l.reader.items (g.S.Shelf.calls l.shelf);
  same : g.S.Shelf.files l.shelf ≡ g.S.Shelf.files l.initial.shelf;
  faults : g.S.Shelf.faults l.initial.shelf ≤ g.S.Shelf.faults l.shelf;
  absences : g.S.Shelf.absences l.initial.shelf ≤ g.S.Shelf.absences l.shelf;
  excesses : g.S.Shelf.excesses l.initial.shelf ≤ g.S.Shelf.excesses l.shelf;
  bounded : l.known.count < 1048576;
  even : length l.known.places + length l.initial.known.bytes ≡ length l.initial.known.places + length l.known.bytes;
  few : length l.known.files ≤ l.known.count;
  named : map string_bytes l.files ≡ l.known.files;
  small : length l.known.bytes < 16777216;
}

abbrev pub decreases-turns : goal.decreases-turns
decreases-turns g l = (16777300 * 1048576 + length l.reader.items) - 16777300 * l.known.count
