use Rattle.std.proofs.Common.{◌≤◌, length, drop}
use Rattle.net_words.specs.Builds.{AreThere}
use Rattle.net_words.proofs.BuildLemmas.{behind, IsLeft}
use Rattle.net_procs.specs.Labels.{same_at}
use Rattle.net_procs.proofs.labels.same_at.Given as goal

abbrev pub invariant-loop-i : goal.invariant-loop-i
invariant-loop-i l = record {
  left : IsLeft (same_at l.free l.x l.y) l.fn.net l.net (behind l.made.items (same_at (drop l.i l.free) (drop l.i l.x) (drop l.i l.y)));
  there : AreThere l.net l.made.items;
  longer : length l.fn.net ≤ length l.net;
}
