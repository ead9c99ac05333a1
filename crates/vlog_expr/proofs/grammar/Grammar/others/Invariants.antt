-- What is left decides what is still to be found.
use Rattle.std.proofs.Common.{◌≡◌, ℕ, ◌++◌, ◌≤◌, List, length, Ok, Err}
use Rattle.vlog_tree.specs.declared.expr.Expr.{Expr}
use Rattle.vlog_tree.specs.Depth.{depth, deepest_of}
use Rattle.vlog_expr.specs.Exprs.{expr, others, others_from}
use Rattle.vlog_expr.proofs.OthersLemmas.{behind}
use Rattle.vlog_expr.proofs.grammar.Grammar.others.Given as goal

abbrev pub invariant-members : goal.invariant-members
invariant-members g l =
    (n : ℕ) × (xs : List Expr) × (length l.cursor ≤ n) × (deepest_of depth l.found ≤ l.self.room) × (l.found ≡ l.fn.found ++ xs)
    × (others l.self.room (expr l.self.room) l.fn.cursor ≡ behind xs (others_from l.self.room (expr l.self.room) n l.cursor))

abbrev pub decreases-members : goal.decreases-members
decreases-members g l = length l.cursor
