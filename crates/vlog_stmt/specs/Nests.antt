-- A function value that reads what nests, of some depth.
use Rattle.std.specs.Prelude.{ℕ, List, Result}
use Rattle.std.specs.declared.alloc.Global.{Global}
use denote.Ref.{MutBor}
use Rattle.vlog_tree.specs.Lexemes.{Lexeme}
use Rattle.vlog_expr.specs.declared.stuck.Stuck.{Stuck}
use Rattle.vlog_expr.specs.Reading.{Reader, Reads}

-- the function may be called, and gives what the reader gives
pub record Nests {A : Type 0} (room : ℕ) (reader : Reader A) (pre : Global → MutBor (List Lexeme) → ℕ → Type 0)
    (post : Global → MutBor (List Lexeme) → ℕ → Result A Stuck → MutBor (List Lexeme) → Type 0) : Type 0 where
  pub callable : (alloc : Global) (old : MutBor (List Lexeme)) → pre alloc old room
  pub reads : (alloc : Global) (old new : MutBor (List Lexeme)) (r : Result A Stuck) → post alloc old room r new → Reads (reader old.now) r new.now
