-- The copies so far, and those that are left.
use Rattle.std.proofs.Common.{◌≡◌, ◌-◌, ◌++◌}
use Rattle.proc_values.specs.Labels.{repeated}
use Rattle.proc_values.proofs.labels.repeated.Given as goal

abbrev pub invariant-loop-done : goal.invariant-loop-done
invariant-loop-done l = l.all.items ++ repeated (l.count - l.done) l.free ≡ repeated l.count l.free
