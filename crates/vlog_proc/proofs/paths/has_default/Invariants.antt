-- What is left decides what all say.
use Rattle.std.proofs.Common.{◌≡◌, drop}
use Rattle.vlog_proc.specs.Paths.{has_default}
use Rattle.vlog_proc.proofs.paths.has_default.Given as goal

abbrev pub invariant-loop-arm : goal.invariant-loop-arm
invariant-loop-arm l = has_default (drop l.arm-index l.arms) ≡ has_default l.arms
