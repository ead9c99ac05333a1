-- The bits so far, and those of what is left.
use Rattle.std.proofs.Common.{◌≡◌, ◌-◌, ◌++◌}
use Rattle.proc_values.specs.Labels.{flags}
use Rattle.proc_values.proofs.labels.flags.Given as goal

abbrev pub invariant-loop-place : goal.invariant-loop-place
invariant-loop-place l = l.free.items ++ flags (l.width - l.place) l.left ≡ flags l.width l.number
