-- What is left decides what all add.
use Rattle.std.proofs.Common.{◌≡◌, ◌++◌, drop}
use Rattle.std.specs.List.{flat_map}
use Rattle.elab_bits.specs.Bodies.{arm_reads, body_reads}
use Rattle.elab_bits.proofs.bodies.+looking.Given as goal

abbrev pub invariant-put_all_body_reads-loop-s : goal.invariant-put_all_body_reads-loop-s
invariant-put_all_body_reads-loop-s l = l.touches.items ++ flat_map (body_reads l.design.signals) (drop l.s-index l.ss) ≡ l.fn.touches.items ++ flat_map (body_reads l.design.signals) l.ss

abbrev pub invariant-put_arms_reads-loop-arm : goal.invariant-put_arms_reads-loop-arm
invariant-put_arms_reads-loop-arm l =
    l.touches.items ++ flat_map (arm_reads l.design.signals (body_reads l.design.signals)) (drop l.arm-index l.arms) ≡ l.fn.touches.items ++ flat_map (arm_reads l.design.signals (body_reads l.design.signals)) l.arms
