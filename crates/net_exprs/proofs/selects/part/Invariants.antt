use Rattle.std.proofs.Common.{◌≤◌, ◌-◌, length}
use Rattle.net_words.specs.Builds.{AreThere}
use Rattle.net_words.proofs.BuildLemmas.{IsLeft}
use Rattle.net_exprs.specs.Selects.{part_from}
use Rattle.net_exprs.proofs.Rows.{ahead}
use Rattle.net_exprs.proofs.selects.part.Given as goal

abbrev pub invariant-loop-place : goal.invariant-loop-place
invariant-loop-place l = record {
  left : IsLeft (part_from l.range l.word l.second 0 l.width) l.fn.net l.net (ahead l.out.items (part_from l.range l.word l.second l.place (l.width - l.place)));
  there : AreThere l.net l.out.items;
  longer : length l.fn.net ≤ length l.net;
}
