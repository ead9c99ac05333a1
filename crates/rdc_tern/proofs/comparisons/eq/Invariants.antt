use Rattle.std.proofs.Common.{◌≡◌, drop}
use Rattle.rdc_tern.specs.Kleene.{and_of}
use Rattle.rdc_tern.specs.Words.{eq_of}
use Rattle.rdc_tern.proofs.comparisons.eq.Given as goal

abbrev pub invariant-loop-i : goal.invariant-loop-i
invariant-loop-i l = and_of l.equal (eq_of (drop l.i l.a) (drop l.i l.b)) ≡ eq_of l.a l.b
