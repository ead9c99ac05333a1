-- What is left of the statements decides what all say.
use Rattle.std.proofs.Common.{◌≡◌, map, drop}
use Rattle.std.specs.List.{list_any}
use Rattle.proc_loops.specs.Names.{assigns}
use Rattle.proc_loops.proofs.names.+assigning.Given as goal

abbrev pub invariant-any_assigns-loop-s : goal.invariant-any_assigns-loop-s
invariant-any_assigns-loop-s l = list_any (λ b. b) (map (assigns l.name) (drop l.s-index l.ss)) ≡ list_any (λ b. b) (map (assigns l.name) l.ss)

abbrev pub invariant-any_arm_assigns-loop-arm : goal.invariant-any_arm_assigns-loop-arm
invariant-any_arm_assigns-loop-arm l = list_any (λ a. assigns l.name a.body) (drop l.arm-index l.arms) ≡ list_any (λ a. assigns l.name a.body) l.arms
