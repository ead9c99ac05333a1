-- What is left decides, behind what was found.
use Rattle.std.proofs.Common.{◌≡◌, ℕ, ◌<◌, length}
use Rattle.vlog_parse.specs.Lists.{until, until_from}
use Rattle.vlog_parse.proofs.LoopLemmas.{behind}
use Rattle.vlog_parse.proofs.lists.until.Given as goal

abbrev pub invariant-pieces : goal.invariant-pieces
invariant-pieces g l =
    (n : ℕ) × (length l.cursor < n)
    × (until l.word (g.P.Piece.reader l.fn.piece) l.fn.cursor ≡ behind l.found (until_from n l.word (g.P.Piece.reader l.fn.piece) l.cursor))

abbrev pub decreases-pieces : goal.decreases-pieces
decreases-pieces g l = length l.cursor
