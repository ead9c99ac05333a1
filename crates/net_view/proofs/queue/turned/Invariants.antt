use Rattle.std.proofs.Common.{ℕ, ◌<◌, ◌≤◌, get_or, length}
use Rattle.net_view.proofs.queue.turned.Given as goal

abbrev pub invariant-items : goal.invariant-items
invariant-items l = record {
  inside : l.least < length l.cycle;
  lowest : (j : ℕ) → j < l.k → get_or l.cycle l.least 0 ≤ get_or l.cycle j 0;
}
