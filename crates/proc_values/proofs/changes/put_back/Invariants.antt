-- The values that are left decide all.
use Rattle.std.proofs.Common.{◌≡◌, drop, length}
use Rattle.proc_values.specs.Marks.{scattered}
use Rattle.proc_values.proofs.changes.put_back.Given as goal

abbrev pub invariant-loop-i : goal.invariant-loop-i
invariant-loop-i l = scattered (drop l.i l.bits) (drop l.i l.values) l.state ≡ scattered l.bits l.values l.fn.state
