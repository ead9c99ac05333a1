-- The cone of a node: all that its logic reads, through gates but not through flops.
--   IsFanIn                       what a gate reads
--   InCone, ReadsSource           the nodes and the sources of a cone
--   InCones, SomeReadsSource      those of several roots
--   Lists                         a list of all numbers of a kind, each once, ascending
use Rattle.std.specs.Prelude.{◌≡◌, ◌⊎◌, ◌↔◌, ℕ, List, Contains}
use Rattle.std.specs.List.Sorted.{IsStrictlyIncreasing}
use Rattle.net_view.specs.declared.gate.Gate.TheVariants.{Const, Source, Not, And, Or, Xor, Pick, Lift}
use Rattle.net_view.specs.View.{Numbered, IsGateAt}

-- the gate reads node j
abbrev pub IsFanIn : Numbered → ℕ → Type 0
IsFanIn (Const b) j = ⊥
IsFanIn (Source s) j = ⊥
IsFanIn (Not a) j = j ≡ a
IsFanIn (And a b) j = (j ≡ a) ⊎ (j ≡ b)
IsFanIn (Or a b) j = (j ≡ a) ⊎ (j ≡ b)
IsFanIn (Xor a b) j = (j ≡ a) ⊎ (j ≡ b)
IsFanIn (Pick c a b) j = (j ≡ c) ⊎ ((j ≡ a) ⊎ (j ≡ b))
IsFanIn (Lift c a b) j = (j ≡ c) ⊎ (j ≡ a)

-- the root itself, and each fan-in of a member; a source reads nothing, so a flop ends it
pub data InCone (gates : List Numbered) (root : ℕ) : ℕ → Type 0 where
  itself : InCone gates root root
  fan_in : (k j : ℕ) (g : Numbered) → InCone gates root k → IsGateAt gates k g → IsFanIn g j → InCone gates root j

-- a node of the cone is source s
abbrev pub ReadsSource : List Numbered → ℕ → ℕ → Type 0
ReadsSource gates root s = (k : ℕ) × InCone gates root k × IsGateAt gates k (Source s)

-- node k is in the cone of one of the roots
abbrev pub InCones : List Numbered → List ℕ → ℕ → Type 0
InCones gates roots k = (root : ℕ) × Contains roots root × InCone gates root k

-- source s is read by one of the roots
abbrev pub SomeReadsSource : List Numbered → List ℕ → ℕ → Type 0
SomeReadsSource gates roots s = (root : ℕ) × Contains roots root × ReadsSource gates root s

-- all numbers with the property, each once, in ascending order
pub record Lists (P : ℕ → Type 0) (found : List ℕ) : Type 0 where
  pub ascending : IsStrictlyIncreasing found
  pub whole : (n : ℕ) → Contains found n ↔ P n
