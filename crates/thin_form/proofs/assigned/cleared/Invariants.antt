use Rattle.std.proofs.Common.{◌≡◌, take}
use Rattle.thin_tree.specs.Written.{texts}
use Rattle.thin_form.specs.Rules.{cleared}
use Rattle.thin_form.specs.Order.{all_processes}
use Rattle.thin_form.proofs.assigned.cleared.Given as goal

abbrev pub invariant-loop-p : goal.invariant-loop-p
invariant-loop-p l = texts l.out.items ≡ cleared (all_processes (take l.p-index l.processes))
