use Rattle.std.proofs.Common.{◌≡◌, ℕ, ◌<◌, ◌≤◌, ◌-◌, true, length}
use Rattle.std.specs.Prelude.{slice_index}
use Rattle.net_view.specs.Queue.{is_marked}
use Rattle.net_view.proofs.queue.next_unlisted.Given as goal

abbrev pub invariant-needs : goal.invariant-needs
invariant-needs l = record {
  within : l.at ≤ length l.needs;
  further : l.from ≤ l.at;
  passed : (i : ℕ) → l.from ≤ i → i < l.at → is_marked l.listed (slice_index l.needs i) ≡ true;
}

abbrev pub decreases-needs : goal.decreases-needs
decreases-needs l = length l.needs - l.at
