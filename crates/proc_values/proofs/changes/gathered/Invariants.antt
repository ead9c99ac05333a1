-- The values so far, and those that are left.
use Rattle.std.proofs.Common.{◌≡◌, ◌++◌, drop}
use Rattle.proc_values.specs.Runs.{values_of}
use Rattle.proc_values.proofs.changes.gathered.Given as goal

abbrev pub invariant-loop-i : goal.invariant-loop-i
invariant-loop-i l = l.values.items ++ values_of l.state (drop l.i l.bits) ≡ values_of l.state l.bits
