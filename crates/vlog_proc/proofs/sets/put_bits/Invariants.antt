-- What is left decides what all say.
use Rattle.std.proofs.Common.{◌≡◌, ◌++◌, map, drop}
use Rattle.vlog_proc.proofs.sets.put_bits.Given as goal

abbrev pub invariant-loop-touch : goal.invariant-loop-touch
invariant-loop-touch l = l.bits.items ++ map (λ t. t.bit) (drop l.touch-index l.touches) ≡ l.fn.bits.items ++ map (λ t. t.bit) l.touches
