-- What is left decides, with as many turns as the operand leaves room for.
use Rattle.std.proofs.Common.{◌≡◌, ℕ, ◌+◌, ◌-◌, ◌≤◌}
use Rattle.vlog_tree.specs.Depth.{depth}
use Rattle.vlog_expr.specs.Exprs.{expr, climb}
use Rattle.vlog_expr.proofs.grammar.Grammar.climb.Given as goal

abbrev pub invariant-operators : goal.invariant-operators
invariant-operators g l =
    (n : ℕ) × (l.self.room + 2 ≤ depth l.left + n) × (depth l.left ≤ l.self.room + 1)
    × (climb l.self.room (expr l.self.room) n l.level l.place l.left l.cursor ≡ climb l.self.room (expr l.self.room) (l.self.room + 2) l.fn.level l.fn.place l.fn.first l.fn.cursor)

abbrev pub decreases-operators : goal.decreases-operators
decreases-operators g l = l.self.room + 2 - depth l.left
