use Rattle.std.proofs.Common.{◌≡◌, take, map}
use Rattle.thin_tree.specs.Written.{an_assignment}
use Rattle.thin_form.specs.Order.{all_assigns}
use Rattle.thin_form.proofs.assigned.listed_assigns.Given as goal

abbrev pub invariant-loop-of : goal.invariant-loop-of
invariant-loop-of l = all_assigns l.out.items ≡ map an_assignment (take l.of-index l.given)
