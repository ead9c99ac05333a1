use Rattle.std.proofs.Common.{◌≡◌, ◌≤◌, ◌-◌, length}
use Rattle.net_words.specs.Builds.{AreThere}
use Rattle.net_words.proofs.BuildLemmas.{behind, IsLeft}
use Rattle.net_exprs.specs.Constants.{constants, start_bits}
use Rattle.net_exprs.proofs.constants.constant.Given as goal

abbrev pub invariant-loop-place : goal.invariant-loop-place
invariant-loop-place l = record {
  left : IsLeft (constants (start_bits l.inverse l.number l.width)) l.fn.net l.net (behind l.made.items (constants (start_bits l.inverse l.rest (l.width - l.place))));
  there : AreThere l.net l.made.items;
  longer : length l.fn.net ≤ length l.net;
  count : length l.made.items ≡ l.place;
}
