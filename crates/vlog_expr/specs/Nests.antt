-- A function value that reads expressions of some depth.
use Rattle.std.specs.Prelude.{ℕ, ◌+◌, ◌<◌, ◌≤◌, ◌^◌, Result, IfOk}
use Rattle.std.specs.declared.alloc.Global.{Global}
use denote.Ref.{MutBor}
use Rattle.vlog_tree.specs.declared.expr.Expr.{Expr}
use Rattle.vlog_tree.specs.Lexemes.{Lexeme}
use Rattle.vlog_tree.specs.Depth.{depth}
use Rattle.vlog_expr.specs.declared.stuck.Stuck.{Stuck}
use Rattle.vlog_expr.specs.Reading.{Reads}
use Rattle.vlog_expr.specs.Exprs.{expr}
use Rattle.std.specs.Prelude.{List}

-- the function may be called, reads an expression of that depth at most, and answers no deeper one
pub record Nests (room : ℕ) (pre : Global → MutBor (List Lexeme) → ℕ → ℕ → Type 0)
    (post : Global → MutBor (List Lexeme) → ℕ → ℕ → Result Expr Stuck → MutBor (List Lexeme) → Type 0) : Type 0 where
  pub bounded : room + 1 < 2 ^ 64
  pub callable : (alloc : Global) (old : MutBor (List Lexeme)) (level : ℕ) → pre alloc old room level
  pub reads : (alloc : Global) (old new : MutBor (List Lexeme)) (level : ℕ) (r : Result Expr Stuck) → post alloc old room level r new
      → Reads (expr room level old.now) r new.now
  pub shallow : (alloc : Global) (old new : MutBor (List Lexeme)) (level : ℕ) (r : Result Expr Stuck) → post alloc old room level r new
      → IfOk r (λ x. depth x ≤ room)
