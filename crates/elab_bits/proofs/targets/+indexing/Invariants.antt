-- What is left decides what all add.
use Rattle.std.proofs.Common.{◌≡◌, ◌++◌, drop}
use Rattle.std.specs.List.{flat_map}
use Rattle.elab_bits.specs.Targets.{target_reads}
use Rattle.elab_bits.proofs.targets.+indexing.Given as goal

abbrev pub invariant-put_all_target_reads-loop-e : goal.invariant-put_all_target_reads-loop-e
invariant-put_all_target_reads-loop-e l = l.touches.items ++ flat_map (target_reads l.design.signals) (drop l.e-index l.es) ≡ l.fn.touches.items ++ flat_map (target_reads l.design.signals) l.es
