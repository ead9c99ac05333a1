-- What was passed over are blanks.
use Rattle.std.proofs.Common.{◌≡◌, ◌≤◌, length, take}
use Rattle.cons_file.specs.Forms.{cut_blanks}
use Rattle.cons_file.proofs.words.cut.Given as goal

abbrev pub invariant-loop-end : goal.invariant-loop-end
invariant-loop-end l = record { within : l.end ≤ length l.text; same : cut_blanks (take l.end l.text) ≡ cut_blanks l.text }

abbrev pub decreases-loop-end : goal.decreases-loop-end
decreases-loop-end l = l.end
