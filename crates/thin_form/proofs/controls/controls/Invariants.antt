use Rattle.std.proofs.Common.{◌≡◌, ◌++◌, drop, map}
use Rattle.std.specs.List.{AllByRecursion}
use Rattle.thin_form.specs.Numbers.{IsControlled, flop_of}
use Rattle.thin_form.specs.Listed.{lists}
use Rattle.thin_form.specs.Order.{all_processes}
use Rattle.thin_form.proofs.controls.controls.Given as goal

abbrev pub invariant-loop-p : goal.invariant-loop-p
invariant-loop-p l = record {
  made : l.flops.items ++ map (flop_of (lists l.names)) (all_processes (drop l.p-index l.processes)) ≡ map (flop_of (lists l.names)) (all_processes l.processes);
  sound : AllByRecursion (IsControlled (lists l.names)) (all_processes (drop l.p-index l.processes)) → AllByRecursion (IsControlled (lists l.names)) (all_processes l.processes);
  complete : AllByRecursion (IsControlled (lists l.names)) (all_processes l.processes) → AllByRecursion (IsControlled (lists l.names)) (all_processes (drop l.p-index l.processes));
}
