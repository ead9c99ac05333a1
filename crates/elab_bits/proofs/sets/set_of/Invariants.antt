-- The bits that are left, put in behind those so far.
use Rattle.std.proofs.Common.{◌≡◌, [], drop}
use Rattle.elab_bits.specs.Touches.{entered}
use Rattle.elab_bits.proofs.sets.set_of.Given as goal

abbrev pub invariant-loop-bit : goal.invariant-loop-bit
invariant-loop-bit l = entered l.set.keys (drop l.bit-index l.bits) ≡ entered [] l.bits
