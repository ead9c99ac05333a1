-- The bits so far, and those that are left.
use Rattle.std.proofs.Common.{◌≡◌, ◌++◌, drop}
use Rattle.rdc_tern.specs.Shifts.{select_of}
use Rattle.proc_values.proofs.changes.mixed.Given as goal

abbrev pub invariant-loop-i : goal.invariant-loop-i
invariant-loop-i l = l.word.items ++ select_of l.select (drop l.i l.a) (drop l.i l.b) ≡ select_of l.select l.a l.b
