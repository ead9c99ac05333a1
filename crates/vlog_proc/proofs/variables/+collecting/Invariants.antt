-- What is left decides what all add.
use Rattle.std.proofs.Common.{◌≡◌, ◌++◌, drop}
use Rattle.std.specs.List.{flat_map}
use Rattle.vlog_proc.specs.Assigns.{loop_variables}
use Rattle.vlog_proc.proofs.variables.+collecting.Given as goal

abbrev pub invariant-put_all_variables-loop-s : goal.invariant-put_all_variables-loop-s
invariant-put_all_variables-loop-s l = l.names.items ++ flat_map loop_variables (drop l.s-index l.ss) ≡ l.fn.names.items ++ flat_map loop_variables l.ss

abbrev pub invariant-put_item_variables-loop-arm : goal.invariant-put_item_variables-loop-arm
invariant-put_item_variables-loop-arm l = l.names.items ++ flat_map (λ arm. loop_variables arm.body) (drop l.arm-index l.arms) ≡ l.fn.names.items ++ flat_map (λ arm. loop_variables arm.body) l.arms
