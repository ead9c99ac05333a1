use Rattle.std.proofs.Common.{◌≡◌, ◌≤◌, ◌-◌, length}
use Rattle.design_form.specs.Extents.{shape_of}
use Rattle.design_form.specs.Selects.{starts}
use Rattle.net_words.proofs.BuildLemmas.{IsLeft}
use Rattle.net_exprs.specs.Selects.{hits_from}
use Rattle.net_exprs.specs.Starts.{AreMaybe}
use Rattle.net_exprs.proofs.Rows.{ahead}
use Rattle.net_exprs.proofs.picks.hits.Given as goal

abbrev pub invariant-loop-number : goal.invariant-loop-number
invariant-loop-number l = record {
  left :
      IsLeft (hits_from l.select.part l.select.range l.select.width (shape_of l.extent) l.index 0 (starts l.select.range l.select.width)) l.fn.net l.net
      (ahead l.hits.items (hits_from l.select.part l.select.range l.select.width (shape_of l.extent) l.index l.number (starts l.select.range l.select.width - l.number)));
  there : AreMaybe l.net l.hits.items;
  longer : length l.fn.net ≤ length l.net;
  count : length l.hits.items ≡ l.number;
  bound : l.number ≤ starts l.select.range l.select.width;
}
