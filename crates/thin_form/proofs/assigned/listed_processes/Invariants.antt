use Rattle.std.proofs.Common.{◌≡◌, take, map}
use Rattle.thin_tree.specs.Written.{a_process}
use Rattle.thin_form.specs.Order.{all_processes}
use Rattle.thin_form.proofs.assigned.listed_processes.Given as goal

abbrev pub invariant-loop-of : goal.invariant-loop-of
invariant-loop-of l = all_processes l.out.items ≡ map a_process (take l.of-index l.given)
