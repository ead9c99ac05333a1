use Rattle.std.proofs.Common.{◌≡◌, ℕ, ◌<◌, get_or}
use Rattle.net_view.proofs.queue.first_place.Given as goal

abbrev pub invariant-items : goal.invariant-items
invariant-items l = (j : ℕ) → j < l.k → get_or l.items j 0 ≡ l.f → ⊥
