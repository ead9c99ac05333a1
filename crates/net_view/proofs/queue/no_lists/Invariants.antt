use Rattle.std.proofs.Common.{◌≡◌, All, [], length}
use Rattle.net_view.proofs.queue.no_lists.Given as goal

abbrev pub invariant-lists : goal.invariant-lists
invariant-lists l = record {
  count : length l.lists.items ≡ l._made;
  each : All (λ x. x ≡ []) l.lists.items;
}
