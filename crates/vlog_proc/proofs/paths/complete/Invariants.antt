-- What is left decides what all say.
use Rattle.std.proofs.Common.{◌≡◌, drop}
use Rattle.vlog_proc.specs.Faults.{all_checked}
use Rattle.vlog_proc.specs.Paths.{is_done}
use Rattle.vlog_proc.proofs.paths.complete.Given as goal

abbrev pub invariant-loop-bit : goal.invariant-loop-bit
invariant-loop-bit l = all_checked (is_done l.place l.design.signals l.done.keys) (drop l.bit-index l.bits) ≡ all_checked (is_done l.place l.design.signals l.done.keys) l.bits
