-- How the clauses grow, a rail at a time.
use Rattle.std.specs.Prelude.{◌≡◌, ℕ, ◌<◌, ◌≤◌, ◌^◌, Bool, false, List, length, slice_index_or, ◌++◌, ℤ}
use Rattle.std.specs.List.{AllByRecursion}
use Rattle.sat_chain.specs.Clause.{Problem}
use Rattle.tern_cnf.specs.Rails.{zero_rail, is_listed}

-- the clauses, with further ones behind them
abbrev pub with_clauses : Problem → List (List ℤ) → Problem
with_clauses k cs = record { vars = k.vars; clauses = k.clauses ++ cs }

-- a variable above others, all of them among the first so many
pub record IsAbove (r : ℕ) (others : List ℕ) (vars : ℕ) : Type 0 where
  pub others_below : AllByRecursion (λ a. (0 < a) × (a < r)) others
  pub within : (0 < r) × (r ≤ vars)
  pub few : vars < 2 ^ 31

-- a node above others, with both its variables among the first so many
pub record IsNodeAbove (y : ℕ) (others : List ℕ) (vars : ℕ) : Type 0 where
  pub others_below : AllByRecursion (λ a. a < y) others
  pub within : zero_rail y ≤ vars
  pub few : vars < 2 ^ 31

-- so many marks, each true where its number is listed
pub record AreMarks (marks : List Bool) (listed : List ℕ) (count : ℕ) : Type 0 where
  pub whole : length marks ≡ count
  pub each : (k : ℕ) → k < count → slice_index_or marks k false ≡ is_listed listed k
