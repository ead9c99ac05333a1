-- What is left of the statements decides what all give.
use Rattle.std.proofs.Common.{◌≡◌, drop}
use Rattle.std.specs.List.{flat_map}
use Rattle.elab_weight.specs.TargetBits.{once, assigned_bits}
use Rattle.elab_weight.proofs.targets.+assigned.Given as goal

abbrev pub invariant-put_arms-loop-arm : goal.invariant-put_arms-loop-arm
invariant-put_arms-loop-arm l =
    once l.bits.keys (flat_map (λ a. assigned_bits l.design a.body) (drop l.arm-index l.arms)) ≡ once l.fn.bits.keys (flat_map (λ a. assigned_bits l.design a.body) l.arms)

abbrev pub invariant-put_each-loop-s : goal.invariant-put_each-loop-s
invariant-put_each-loop-s l = once l.bits.keys (flat_map (assigned_bits l.design) (drop l.s-index l.ss)) ≡ once l.fn.bits.keys (flat_map (assigned_bits l.design) l.ss)
