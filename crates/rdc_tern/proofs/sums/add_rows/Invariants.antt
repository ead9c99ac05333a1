use Rattle.std.proofs.Common.{◌≡◌, drop}
use Rattle.rdc_tern.specs.Words.{products_of}
use Rattle.rdc_tern.proofs.sums.add_rows.Given as goal

abbrev pub invariant-loop-i : goal.invariant-loop-i
invariant-loop-i l = products_of l.sum l.a l.i (drop l.i l.b) ≡ products_of l.fn.sum l.a 0 l.b
