use Rattle.std.proofs.Common.{◌≡◌, ◌≤◌, length, drop}
use Rattle.net_words.specs.Builds.{AreThere}
use Rattle.net_words.specs.Words.{select}
use Rattle.net_words.proofs.BuildLemmas.{behind, IsLeft}
use Rattle.net_words.proofs.words.select.Given as goal

abbrev pub invariant-loop-i : goal.invariant-loop-i
invariant-loop-i l = record {
  left : IsLeft (select l.s l.a l.b) l.fn.net l.net (behind l.made.items (select l.s (drop l.i l.a) (drop l.i l.b)));
  there : AreThere l.net l.made.items;
  longer : length l.fn.net ≤ length l.net;
  count : length l.made.items ≡ l.i;
}
