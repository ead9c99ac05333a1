-- What is left of the targets decides what all give.
use Rattle.std.proofs.Common.{◌≡◌, drop}
use Rattle.std.specs.List.{flat_map}
use Rattle.elab_weight.specs.TargetBits.{once, target_bits}
use Rattle.elab_weight.proofs.targets.+targets.Given as goal

abbrev pub invariant-put_targets-loop-e : goal.invariant-put_targets-loop-e
invariant-put_targets-loop-e l = once l.bits.keys (flat_map (target_bits l.design) (drop l.e-index l.es)) ≡ once l.fn.bits.keys (flat_map (target_bits l.design) l.es)
