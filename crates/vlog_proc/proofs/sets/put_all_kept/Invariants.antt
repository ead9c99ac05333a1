-- What is left decides what all add.
use Rattle.std.proofs.Common.{◌≡◌, ◌++◌, drop}
use Rattle.std.specs.List.{flat_map}
use Rattle.vlog_proc.specs.Paths.{kept_in}
use Rattle.vlog_proc.proofs.sets.put_all_kept.Given as goal

abbrev pub invariant-loop-bit : goal.invariant-loop-bit
invariant-loop-bit l = l.bits.items ++ flat_map (kept_in l.set.keys) (drop l.bit-index l.more) ≡ l.fn.bits.items ++ flat_map (kept_in l.set.keys) l.more
