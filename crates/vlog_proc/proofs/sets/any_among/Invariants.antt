-- What is left decides what all say.
use Rattle.std.proofs.Common.{◌≡◌, drop}
use Rattle.std.specs.List.{list_any}
use Rattle.elab_bits.specs.Touches.{is_among}
use Rattle.vlog_proc.proofs.sets.any_among.Given as goal

abbrev pub invariant-loop-bit : goal.invariant-loop-bit
invariant-loop-bit l = list_any (is_among l.set.keys) (drop l.bit-index l.bits) ≡ list_any (is_among l.set.keys) l.bits
