use Rattle.std.proofs.Common.{◌≡◌, ◌≤◌, length, drop}
use Rattle.net_words.specs.Builds.{AreThere}
use Rattle.net_words.proofs.BuildLemmas.{IsLeft}
use Rattle.net_procs.specs.Runs.{struck}
use Rattle.net_procs.proofs.changes.strike.Given as goal

abbrev pub invariant-loop-i : goal.invariant-loop-i
invariant-loop-i l = record {
  left : IsLeft (struck l.bits l.strokes l.fn.nodes) l.fn.net l.net (struck l.bits (drop l.i l.strokes) l.nodes);
  there : AreThere l.net l.nodes;
  long : length l.nodes ≡ length l.fn.nodes;
  longer : length l.fn.net ≤ length l.net;
}
