use Rattle.std.proofs.Common.{◌≡◌, take}
use Rattle.rdc_tern.specs.Words.{lt_of}
use Rattle.rdc_tern.proofs.comparisons.less_below.Given as goal

abbrev pub invariant-loop-i : goal.invariant-loop-i
invariant-loop-i l = l.less ≡ lt_of (take l.i l.a) (take l.i l.b)
