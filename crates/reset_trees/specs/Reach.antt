-- What can be reached in a graph over numbers.
--     IsStep steps m n               the graph leads from m to n
--     Reaches step seed n            n is a seed, or one step behind what is reached
--     IsFound, Visits                numbers that are listed once, with marks, and some that are visited
use Rattle.std.specs.Prelude.{◌≡◌, ◌≢◌, ◌⊎◌, ◌↔◌, ℕ, ◌<◌, ◌≤◌, Bool, List, [], length, slice_index, slice_index_or, All, AllPairs, Contains}
use Rattle.cons_bind.specs.Marks.{Marks}

-- the steps from m lead to n
abbrev pub IsStep : List (List ℕ) → ℕ → ℕ → Type 0
IsStep steps m n = Contains (slice_index_or steps m []) n

-- the least set that holds the seeds, and with a member all that a step from it leads to
pub data Reaches (Step : ℕ → ℕ → Type 0) (Seed : ℕ → Type 0) : ℕ → Type 0 where
  seed : (n : ℕ) → Seed n → Reaches Step Seed n
  step : (m n : ℕ) → Reaches Step Seed m → Step m n → Reaches Step Seed n

-- the numbers that are found, each once, are marked
pub record IsFound (marks : List Bool) (found : List ℕ) : Type 0 where
  pub marked : Marks (Contains found) marks
  pub apart : AllPairs (λ a b. a ≢ b) found
  pub inside : All (λ n. n < length marks) found

-- the numbers are among what is found, behind what was
pub record Visits (numbers old new : List ℕ) : Type 0 where
  pub each : (n : ℕ) → Contains new n ↔ (Contains old n ⊎ Contains numbers n)
  pub longer : length old ≤ length new
  pub kept : (k : ℕ) → k < length old → slice_index new k ≡ slice_index old k
