use Rattle.std.proofs.Common.{◌≤◌, drop, length}
use Rattle.net_words.specs.Builds.{AreThere}
use Rattle.net_words.proofs.BuildLemmas.{IsLeft}
use Rattle.net_exprs.specs.Selects.{terms}
use Rattle.net_exprs.proofs.Rows.{ahead}
use Rattle.net_exprs.proofs.picks.terms.Given as goal

abbrev pub invariant-loop-number : goal.invariant-loop-number
invariant-loop-number l = record {
  left :
      IsLeft (terms l.hits l.select.range l.word l.select.width 0 l.place) l.fn.net l.net
      (ahead l.found.items (terms (drop l.number l.hits) l.select.range l.word l.select.width l.number l.place));
  there : AreThere l.net l.found.items;
  longer : length l.fn.net ≤ length l.net;
}
