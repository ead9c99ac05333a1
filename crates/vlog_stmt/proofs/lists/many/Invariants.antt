-- What is left decides, behind what was found.
use Rattle.std.proofs.Common.{◌≡◌, ℕ, ◌<◌, List, ◌++◌, length}
use Rattle.vlog_stmt.specs.Lists.{many, many_from}
use Rattle.vlog_stmt.proofs.ManyLemmas.{behind}
use Rattle.vlog_stmt.proofs.lists.many.Given as goal

abbrev pub invariant-pieces : goal.invariant-pieces
invariant-pieces g l =
    (n : ℕ) × (xs : List _) × (length l.cursor < n) × (l.found ≡ l.fn.found ++ xs)
    × (many (g.P.Piece.goes_on l.fn.piece) (g.P.Piece.reader l.fn.piece) l.fn.cursor ≡ behind xs (many_from n (g.P.Piece.goes_on l.fn.piece) (g.P.Piece.reader l.fn.piece) l.cursor))

abbrev pub decreases-pieces : goal.decreases-pieces
decreases-pieces g l = length l.cursor
