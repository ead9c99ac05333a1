-- What is left decides, behind what was found.
use Rattle.std.proofs.Common.{◌≡◌, ℕ, ◌≤◌, List, ◌++◌, length}
use Rattle.vlog_parse.specs.Lists.{others, others_from}
use Rattle.vlog_parse.proofs.LoopLemmas.{behind}
use Rattle.vlog_parse.proofs.lists.others.Given as goal

abbrev pub invariant-pieces : goal.invariant-pieces
invariant-pieces g l =
    (n : ℕ) × (xs : List _) × (length l.cursor ≤ n) × (l.found ≡ l.fn.found ++ xs)
    × (others (g.P.Piece.reader l.fn.piece) l.fn.cursor ≡ behind xs (others_from n (g.P.Piece.reader l.fn.piece) l.cursor))

abbrev pub decreases-pieces : goal.decreases-pieces
decreases-pieces g l = length l.cursor
