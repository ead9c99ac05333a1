use Rattle.std.proofs.Common.{◌≡◌, ℕ, ◌<◌, ◌+◌, ◌-◌, [], map, get_or, reverse}
use Rattle.thin_form.proofs.Walks.{IsWalk, all_steps, steps_made}
use Rattle.thin_form.proofs.ordering.order.Given as goal

abbrev pub invariant-loop-start : goal.invariant-loop-start
invariant-loop-start l = record {
  walk : IsWalk (map (λ r. r.items) l.reads) l.marks.items (reverse l.way.items) l.order.items;
  free : l.way.items ≡ [];
  seen : (w : ℕ) → w < l.start → 0 < get_or l.marks.items w 0;
}

abbrev pub invariant-loop-u : goal.invariant-loop-u
invariant-loop-u l = record {
  walk : IsWalk (map (λ r. r.items) l.reads) l.marks.items (reverse l.way.items) l.order.items;
  seen : (w : ℕ) → w < l.start + 1 → 0 < get_or l.marks.items w 0;
}

abbrev pub decreases-loop-u : goal.decreases-loop-u
decreases-loop-u l = all_steps (map (λ r. r.items) l.reads) - steps_made l.marks.items
