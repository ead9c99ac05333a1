-- What is left decides, behind what was found.
use Rattle.std.proofs.Common.{◌≡◌, ℕ, ◌<◌, length}
use Rattle.vlog_parse.specs.Items.{item, arms, arms_from}
use Rattle.vlog_parse.proofs.LoopLemmas.{behind}
use Rattle.vlog_parse.proofs.items.Holding.arms.Given as goal

abbrev pub invariant-arms : goal.invariant-arms
invariant-arms g l =
    (n : ℕ) × (length l.cursor < n)
    × (arms l.self.room (item l.self.room) l.fn.cursor ≡ behind l.found (arms_from l.self.room (item l.self.room) n l.may l.cursor))

abbrev pub decreases-arms : goal.decreases-arms
decreases-arms g l = length l.cursor
