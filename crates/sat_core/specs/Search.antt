-- How far a search has come: the clauses so far, and the chain that derived them.
use Rattle.std.specs.Prelude.{◌≡◌, ℕ, ◌+◌, ◌-◌, ◌*◌, ◌^◌, ◌≤◌, List, length, Option}
use Rattle.sat_chain.specs.Clause.{Problem}
use Rattle.sat_chain.specs.declared.chain.ChainLine.{ChainLine}
use Rattle.sat_core.specs.Counts.{with_lines, AllCount}
use Rattle.sat_core.specs.Answers.{IsWithin}

-- the lines count, fewer than the budget's, and no more than the rank
pub record IsSearch (p : Problem) (budget : Option ℕ) (store : Problem) (lines : List ChainLine) (rank : ℕ) : Type 0 where
  pub vars : store.vars ≡ p.vars
  pub clauses : store.clauses ≡ with_lines p.clauses lines
  pub counts : AllCount p.vars p.clauses lines
  pub counted : length lines ≤ rank
  pub within : IsWithin budget (length lines)

-- what is left of a search over so many variables
abbrev pub left_of : ℕ → ℕ → ℕ → ℕ
left_of vars rank top = (2 ^ vars - rank) * (vars + 1) + (vars - top)
