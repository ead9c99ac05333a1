use Rattle.std.proofs.Common.{◌≡◌, ◌≤◌, length, drop}
use Rattle.net_words.specs.Builds.{AreThere}
use Rattle.net_words.specs.Products.{rows}
use Rattle.net_words.proofs.BuildLemmas.{IsLeft}
use Rattle.net_words.proofs.products.add_rows.Given as goal

abbrev pub invariant-loop-i : goal.invariant-loop-i
invariant-loop-i l = record {
  left : IsLeft (rows l.low l.fn.first.items l.a 0 l.b) l.fn.net l.net (rows l.low l.total.items l.a l.i (drop l.i l.b));
  there : AreThere l.net l.total.items;
  longer : length l.fn.net ≤ length l.net;
  width : length l.total.items ≡ length l.a;
}
