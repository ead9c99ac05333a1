-- What is left decides what all add.
use Rattle.std.proofs.Common.{◌≡◌, ◌++◌, drop}
use Rattle.std.specs.List.{flat_map}
use Rattle.elab_bits.specs.Reads.{reads}
use Rattle.elab_bits.proofs.readers.+reading.Given as goal

abbrev pub invariant-put_all_reads-loop-e : goal.invariant-put_all_reads-loop-e
invariant-put_all_reads-loop-e l = l.touches.items ++ flat_map (reads l.design.signals) (drop l.e-index l.es) ≡ l.fn.touches.items ++ flat_map (reads l.design.signals) l.es
