-- What is still to do in a walk through gates, the next step first.
--   IsUnder      what stands below a gate reads it, or it is a root
--   IsChain      this holds of each step
--   HasLeave     the gate is entered and not left
use Rattle.std.specs.Prelude.{◌≡◌, ◌⊎◌, ℕ, List, [], ◌∷◌, Contains}
use Rattle.net_order.specs.declared.step.Step.{Step}
use Rattle.net_order.specs.declared.step.Step.TheVariants.{Visit, Leave}

-- the nearest gate below that is entered reads k; where there is none, k is a root
abbrev pub IsUnder : (ℕ → List ℕ) → List ℕ → ℕ → List Step → Type 0
IsUnder reads roots k [] = Contains roots k
IsUnder reads roots k (Visit j ∷ steps) = IsUnder reads roots k steps
IsUnder reads roots k (Leave j ∷ steps) = Contains (reads j) k

-- each gate is one that the nearest gate below it reads
abbrev pub IsChain : (ℕ → List ℕ) → List ℕ → List Step → Type 0
IsChain reads roots [] = Unit {0}
IsChain reads roots (Visit k ∷ steps) = IsUnder reads roots k steps × IsChain reads roots steps
IsChain reads roots (Leave k ∷ steps) = IsUnder reads roots k steps × IsChain reads roots steps

-- gate k is still to be left
abbrev pub HasLeave : ℕ → List Step → Type 0
HasLeave k [] = ⊥
HasLeave k (Visit j ∷ steps) = HasLeave k steps
HasLeave k (Leave j ∷ steps) = (k ≡ j) ⊎ HasLeave k steps
