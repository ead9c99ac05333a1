use Rattle.std.proofs.Common.{◌≡◌, take}
use Rattle.thin_tree.specs.Written.{texts}
use Rattle.thin_form.specs.Rules.{targets}
use Rattle.thin_form.specs.Order.{all_assigns}
use Rattle.thin_form.proofs.assigned.targets.Given as goal

abbrev pub invariant-loop-a : goal.invariant-loop-a
invariant-loop-a l = texts l.out.items ≡ targets (all_assigns (take l.a-index l.assigns))
