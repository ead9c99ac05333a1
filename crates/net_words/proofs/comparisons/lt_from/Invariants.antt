use Rattle.std.proofs.Common.{◌<◌, ◌≤◌, length, drop}
use Rattle.net_words.specs.Comparisons.{lt_from}
use Rattle.net_words.proofs.BuildLemmas.{IsLeft}
use Rattle.net_words.proofs.comparisons.lt_from.Given as goal

abbrev pub invariant-loop-i : goal.invariant-loop-i
invariant-loop-i l = record {
  left : IsLeft (lt_from l.fn.first l.a l.b) l.fn.net l.net (lt_from l.less (drop l.i l.a) (drop l.i l.b));
  there : l.less < length l.net;
  longer : length l.fn.net ≤ length l.net;
}
