use Rattle.std.proofs.Common.{◌≡◌, take, map}
use Rattle.thin_tree.specs.Postfix.{expression_of}
use Rattle.thin_form.specs.Order.{all_assigns}
use Rattle.thin_form.proofs.assigned.values.Given as goal

abbrev pub invariant-loop-a : goal.invariant-loop-a
invariant-loop-a l = map (λ e. expression_of e.of.now) l.out.items ≡ map (λ a. a.value) (all_assigns (take l.a-index l.assigns))
