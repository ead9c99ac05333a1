use Rattle.std.proofs.Common.{◌≡◌, ℕ, ◌<◌, true}
use Rattle.net_view.specs.Queue.{is_marked}
use Rattle.net_view.proofs.queue.first_unmarked.Given as goal

abbrev pub invariant-marks : goal.invariant-marks
invariant-marks l = (k : ℕ) → k < l.f → is_marked l.marks k ≡ true
