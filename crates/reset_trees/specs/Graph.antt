-- Steps that come to those of a graph.
use Rattle.std.specs.Prelude.{◌≡◌, ◌⊎◌, ◌↔◌, ℕ, List, length}
use Rattle.reset_trees.specs.Reach.{IsStep}

-- the new graph has the steps of the old one, and those with the property
pub record AddsSteps (P : ℕ → ℕ → Type 0) (old new : List (List ℕ)) : Type 0 where
  pub each : (m n : ℕ) → IsStep new m n ↔ (IsStep old m n ⊎ P m n)
  pub len : length new ≡ length old
