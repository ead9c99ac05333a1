-- What is left decides the number.
use Rattle.std.proofs.Common.{◌≡◌, drop}
use Rattle.proc_values.specs.Cases.{default_from}
use Rattle.proc_values.proofs.cases.default_of.Given as goal

abbrev pub invariant-loop-i : goal.invariant-loop-i
invariant-loop-i l = default_from l.i (drop l.i l.arms) ≡ default_from 0 l.arms
