use Rattle.std.proofs.Common.{◌≡◌, take, map}
use Rattle.thin_tree.specs.Postfix.{expression_of}
use Rattle.thin_form.specs.Order.{all_processes}
use Rattle.thin_form.proofs.assigned.taken.Given as goal

abbrev pub invariant-loop-p : goal.invariant-loop-p
invariant-loop-p l = map (λ e. expression_of e.of.now) l.out.items ≡ map (λ p. p.data) (all_processes (take l.p-index l.processes))
