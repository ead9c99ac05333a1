use Rattle.std.proofs.Common.{◌≡◌, ◌≤◌, ◌^◌, length, drop, min}
use Rattle.net_words.specs.Builds.{AreThere}
use Rattle.net_words.specs.Shifts.{shift_from}
use Rattle.net_words.proofs.BuildLemmas.{IsLeft}
use Rattle.net_words.proofs.shifts.shift.Given as goal

abbrev pub invariant-loop-i : goal.invariant-loop-i
invariant-loop-i l = record {
  left : IsLeft (shift_from l.toward l.fill 0 l.word l.amount) l.fn.net l.net (shift_from l.toward l.fill l.i l.shifted.items (drop l.i l.amount));
  there : AreThere l.net l.shifted.items;
  longer : length l.fn.net ≤ length l.net;
  width : length l.shifted.items ≡ length l.word;
  distance : min l.distance (length l.shifted.items) ≡ min (2 ^ l.i) (length l.shifted.items);
}
