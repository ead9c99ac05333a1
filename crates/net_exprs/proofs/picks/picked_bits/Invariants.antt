use Rattle.std.proofs.Common.{◌≤◌, ◌-◌, length}
use Rattle.net_words.specs.Builds.{AreThere}
use Rattle.net_words.proofs.BuildLemmas.{IsLeft}
use Rattle.net_exprs.specs.Selects.{picked_from}
use Rattle.net_exprs.proofs.Rows.{ahead}
use Rattle.net_exprs.proofs.picks.picked_bits.Given as goal

abbrev pub invariant-loop-place : goal.invariant-loop-place
invariant-loop-place l = record {
  left :
      IsLeft (picked_from l.hits l.select.range l.word l.select.width 0 l.select.width) l.fn.net l.net
      (ahead l.out.items (picked_from l.hits l.select.range l.word l.select.width l.place (l.select.width - l.place)));
  there : AreThere l.net l.out.items;
  longer : length l.fn.net ≤ length l.net;
}
