-- Lists of marks, one for each number.
use Rattle.std.specs.Prelude.{◌↔◌, ℕ, Bool, false, IsTrue, List, slice_index_or}

-- a number is marked exactly where P is true of it; none is past the end
pub record Marks (P : ℕ → Type 0) (marks : List Bool) : Type 0 where
  pub each : (n : ℕ) → IsTrue (slice_index_or marks n false) ↔ P n
