-- What is left decides what all add.
use Rattle.std.proofs.Common.{◌≡◌, ◌++◌, drop}
use Rattle.elab_bits.specs.Touches.{touched}
use Rattle.elab_bits.proofs.touch.put.Given as goal

abbrev pub invariant-loop-bit : goal.invariant-loop-bit
invariant-loop-bit l = l.touches.items ++ touched l.place (drop l.bit-index l.bits) ≡ l.fn.touches.items ++ touched l.place l.bits
