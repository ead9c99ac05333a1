-- What is left decides what all add.
use Rattle.std.proofs.Common.{◌≡◌, ◌++◌, drop}
use Rattle.std.specs.List.{flat_map}
use Rattle.elab_bits.specs.Targets.{targets}
use Rattle.elab_bits.proofs.targets.+naming.Given as goal

abbrev pub invariant-put_all_targets-loop-e : goal.invariant-put_all_targets-loop-e
invariant-put_all_targets-loop-e l = l.bits.items ++ flat_map (targets l.design.signals) (drop l.e-index l.es) ≡ l.fn.bits.items ++ flat_map (targets l.design.signals) l.es
