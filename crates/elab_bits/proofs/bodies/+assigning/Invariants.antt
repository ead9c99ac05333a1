-- What is left decides what all add.
use Rattle.std.proofs.Common.{◌≡◌, ◌++◌, drop}
use Rattle.std.specs.List.{flat_map}
use Rattle.elab_bits.specs.Bodies.{assigned}
use Rattle.elab_bits.proofs.bodies.+assigning.Given as goal

abbrev pub invariant-put_all_assigned-loop-s : goal.invariant-put_all_assigned-loop-s
invariant-put_all_assigned-loop-s l = l.bits.items ++ flat_map (assigned l.design.signals l.kind) (drop l.s-index l.ss) ≡ l.fn.bits.items ++ flat_map (assigned l.design.signals l.kind) l.ss

abbrev pub invariant-put_arms_assigned-loop-arm : goal.invariant-put_arms_assigned-loop-arm
invariant-put_arms_assigned-loop-arm l =
    l.bits.items ++ flat_map (λ arm. assigned l.design.signals l.kind arm.body) (drop l.arm-index l.arms) ≡ l.fn.bits.items ++ flat_map (λ arm. assigned l.design.signals l.kind arm.body) l.arms
