use Rattle.std.proofs.Common.{◌≤◌}
use Rattle.sat_core.specs.Path.{sign_at}
use Rattle.sat_core.specs.Marked.{union_at, IsMarked, ComeTo}
use Rattle.sat_core.proofs.derive.resolve_down.Given as goal

abbrev pub invariant-loop-at : goal.invariant-loop-at
invariant-loop-at l = record {
  within : l.at ≤ l.path.top;
  marked : IsMarked (sign_at l.marks) l.at;
  union : ComeTo l.store.clauses l.from.items (union_at (sign_at l.path.signs.items) (sign_at l.marks));
}

abbrev pub decreases-loop-at : goal.decreases-loop-at
decreases-loop-at l = l.at
