use Rattle.std.proofs.Common.{rules, List, subst}
use Rattle.std.specs.List.Sorted.{IsPermutation}
use Rattle.std.proofs.lemmas.List.Sorted.{answers_always, IsPermutation-map}
use Rattle.thin_tree.specs.Tree as tree
use Rattle.thin_form.specs.declared.assigned.Clocked.{Clocked}
use Rattle.thin_tree.specs.Written.{a_process}
use Rattle.thin_form.specs.Order.{all_processes}
use Rattle.thin_form.proofs.assigned.processes.Goals as goal

pub returns-clause-same : goal.returns-clause-same
returns-clause-same c =
    subst (λ (xs : List tree.Process). IsPermutation xs (all_processes c.sort_by_key.new.self.items)) c.in_ok-out.ensures
    (IsPermutation-map (λ (x : Clocked). a_process x.of.now) c.in_ok-out.out.items c.sort_by_key.new.self.items c.in_ok-sort_by_key.ensures.permutation)

pub returns-clause-sorted : goal.returns-clause-sorted
returns-clause-sorted c = c.in_ok-sort_by_key.ensures.sorted (λ (x : Clocked). x.of.now.cleared) (answers_always _ _ _ (λ f a r g called. search rules))
