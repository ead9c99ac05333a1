-- What is left decides what all say.
use Rattle.std.proofs.Common.{◌≡◌, drop}
use Rattle.vlog_proc.specs.Faults.{all_checked}
use Rattle.vlog_proc.specs.Assigns.{rights, rule}
use Rattle.vlog_proc.proofs.assigns.+judging.Given as goal

abbrev pub invariant-all_rights-loop-s : goal.invariant-all_rights-loop-s
invariant-all_rights-loop-s l = all_checked (λ s. rights (rule l.design.signals l.kind.edged l.kind.variables) s l.running) (drop l.s-index l.ss) ≡ all_checked (λ s. rights (rule l.design.signals l.kind.edged l.kind.variables) s l.running) l.ss

abbrev pub invariant-item_rights-loop-arm : goal.invariant-item_rights-loop-arm
invariant-item_rights-loop-arm l = all_checked (λ arm. rights (rule l.design.signals l.kind.edged l.kind.variables) arm.body l.running) (drop l.arm-index l.arms) ≡ all_checked (λ arm. rights (rule l.design.signals l.kind.edged l.kind.variables) arm.body l.running) l.arms
