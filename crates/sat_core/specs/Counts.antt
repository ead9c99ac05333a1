-- Chains whose lines the checker passes, and the lines that count.
--   as_line          a chain's line as the checker reads it, its clauses numbered from 1
--   Passes           the checker passes the line after these clauses
--   Counts           it passes, isn't empty, and equals no clause before it
--   with_lines       clauses, and those derived by lines after them
--   AllCount         each line counts, after the lines before it
use Rattle.std.specs.Prelude.{◌≢◌, ℕ, ◌+◌, List, [], ◌∷◌, ◌++◌, map, ℤ, Some, Ok}
use Rattle.std.specs.List.{AllByRecursion}
use Rattle.sat_chain.specs.Clause.{IsClause}
use Rattle.sat_chain.specs.Text.{Line, Derived}
use Rattle.sat_chain.specs.Answer.{AnswerTo, seen}
use Rattle.sat_chain.specs.declared.chain.ChainLine.{ChainLine}

-- the numbers of clauses, from 1
abbrev pub numbers : List ℕ → List ℕ
numbers ids = map (λ id. id + 1) ids

-- the line as the checker reads it
abbrev pub as_line : List ℕ → List ℤ → Line
as_line ids lits = Derived (numbers ids) lits

-- the line is of the clauses' variables, and the checker passes it after them
pub record Passes (vars : ℕ) (cs : List (List ℤ)) (ids : List ℕ) (lits : List ℤ) : Type 0 where
  pub clause : IsClause vars lits
  pub answer : AnswerTo cs (Some (as_line ids lits)) (Ok (seen lits))

-- the line passes, isn't empty, and equals no clause before it
pub record Counts (vars : ℕ) (cs : List (List ℤ)) (l : ChainLine) : Type 0 where
  pub passes : Passes vars cs l.from.items l.lits.items
  pub some : l.lits.items ≢ []
  pub new : AllByRecursion (λ c. c ≢ l.lits.items) cs

-- the clauses, and those that lines derive after them
abbrev pub with_lines : List (List ℤ) → List ChainLine → List (List ℤ)
with_lines cs ls = cs ++ map (λ l. l.lits.items) ls

-- each line counts, after the clauses and the lines before it
abbrev pub AllCount : ℕ → List (List ℤ) → List ChainLine → Type 0
AllCount vars cs [] = Unit {0}
AllCount vars cs (l ∷ ls) = Counts vars cs l × AllCount vars (cs ++ l.lits.items ∷ []) ls
