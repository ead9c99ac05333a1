use Rattle.std.proofs.Common.{rules, List, subst}
use Rattle.std.specs.List.Sorted.{IsPermutation}
use Rattle.std.proofs.lemmas.List.Sorted.{answers_always, IsPermutation-map}
use Rattle.thin_tree.specs.Tree as tree
use Rattle.thin_form.specs.declared.assigned.Assigned.{Assigned}
use Rattle.thin_tree.specs.Written.{an_assignment}
use Rattle.thin_form.specs.Order.{all_assigns}
use Rattle.thin_form.proofs.assigned.assigns.Goals as goal

pub returns-clause-same : goal.returns-clause-same
returns-clause-same c =
    subst (λ (xs : List tree.Assignment). IsPermutation xs (all_assigns c.sort_by_key.new.self.items)) c.in_ok-out.ensures
    (IsPermutation-map (λ (x : Assigned). an_assignment x.of.now) c.in_ok-out.out.items c.sort_by_key.new.self.items c.in_ok-sort_by_key.ensures.permutation)

pub returns-clause-sorted : goal.returns-clause-sorted
returns-clause-sorted c = c.in_ok-sort_by_key.ensures.sorted (λ (x : Assigned). x.of.now.target) (answers_always _ _ _ (λ f a r g called. search rules))
