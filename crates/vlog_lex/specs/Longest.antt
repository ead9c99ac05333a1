-- The longest front of a text that has a property.
use Rattle.std.specs.Prelude.{ℕ, ◌≤◌, List, length, take}

-- the first n bytes are a P, and no longer front of the text is
pub record IsLongest (P : List ℕ → Type 0) (bs : List ℕ) (n : ℕ) : Type 0 where
  pub within : n ≤ length bs
  pub whole : P (take n bs)
  pub longest : (m : ℕ) → m ≤ length bs → P (take m bs) → m ≤ n
