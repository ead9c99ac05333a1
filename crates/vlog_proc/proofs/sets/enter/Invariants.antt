-- What is left decides what all say.
use Rattle.std.proofs.Common.{◌≡◌, drop}
use Rattle.elab_bits.specs.Touches.{entered}
use Rattle.vlog_proc.proofs.sets.enter.Given as goal

abbrev pub invariant-loop-bit : goal.invariant-loop-bit
invariant-loop-bit l = entered l.set.keys (drop l.bit-index l.bits) ≡ entered l.fn.set.keys l.bits
