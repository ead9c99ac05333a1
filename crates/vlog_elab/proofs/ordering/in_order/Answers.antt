use Rattle.std.proofs.Common.{◌≡◌, List, ap, rules}
use Rattle.std.specs.Ordering.{nat_cmp, is_lt}
use Rattle.std.specs.Cmp.Lexicographic.{slice_cmp}
use Rattle.std.proofs.lemmas.Cmp.{nat_list_cmp_total}
use Rattle.std.proofs.lemmas.List.Sorted.{ranks_by}
use Rattle.std.proofs.lemmas.Fn.{always_returns_same}
use Rattle.elab_scopes.specs.declared.placed.Placed.{Placed}
use Rattle.vlog_elab.specs.Orders.{by_name}
use Rattle.vlog_elab.proofs.ordering.in_order.Goals as goal

pub returns : goal.returns
returns c = record {
  same = c.sort_unstable_by.ensures.permutation;
  sorted = c.sort_unstable_by.ensures.sorted (λ a b. is_lt (by_name a b)) (ranks_by nat_list_cmp_total (λ (s : Placed). s.signal.name))
      (always_returns_same _ (λ a r. is_lt r ≡ is_lt (by_name a.0.now a.1.0.now)) _ (λ a r q k. search rules));
}
