use Rattle.std.proofs.Common.{◌≡◌, ◌≤◌, length, drop}
use Rattle.net_words.specs.Builds.{AreThere}
use Rattle.net_words.specs.Words.{inverted}
use Rattle.net_words.proofs.BuildLemmas.{behind, IsLeft}
use Rattle.net_words.proofs.words.inverted.Given as goal

abbrev pub invariant-loop-i : goal.invariant-loop-i
invariant-loop-i l = record {
  left : IsLeft (inverted l.word) l.fn.net l.net (behind l.made.items (inverted (drop l.i l.word)));
  there : AreThere l.net l.made.items;
  longer : length l.fn.net ≤ length l.net;
  count : length l.made.items ≡ l.i;
}
