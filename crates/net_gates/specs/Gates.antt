-- A list of gates as they are drawn: nothing folds, and a source is a leaf, a bit by its number.
--   MayAdd                     when a gate may stand behind so many others
--   most_nodes, IsRefusedAt    how many gates there are at most, and when one more is refused
--   IsGateList                 what holds of every list
use Rattle.std.specs.Prelude.{◌≡◌, ℕ, ◌<◌, ◌≤◌, List, length}
use Rattle.net_view.specs.declared.gate.Gate.TheVariants.{Const, Source, Not, And, Or, Xor, Pick, Lift}
use Rattle.net_view.specs.View.{Numbered, IsGateAt}
use Rattle.net_gates.specs.declared.fault.GateFault.{GateFault}
use Rattle.net_gates.specs.declared.fault.GateFault.TheVariants.{Memory, Full}

-- a leaf, or a gate of a design over nodes below a number
abbrev pub MayAdd : ℕ → Numbered → Type 0
MayAdd count (Const b) = Unit {0}
MayAdd count (Source s) = Unit {0}
MayAdd count (Not a) = a < count
MayAdd count (And a b) = (a < count) × (b < count)
MayAdd count (Or a b) = (a < count) × (b < count)
MayAdd count (Xor a b) = (a < count) × (b < count)
MayAdd count (Pick c a b) = ⊥
MayAdd count (Lift c a r) = ⊥

-- the most gates of a list
abbrev pub most_nodes : ℕ
most_nodes = 16777216

-- it is full exactly where there are the most, and elsewhere only memory is wanting
abbrev pub IsRefusedAt : ℕ → GateFault → Type 0
IsRefusedAt count Full = count ≡ most_nodes
IsRefusedAt count Memory = count < most_nodes

-- few gates, each over those before it
pub record IsGateList (gates : List Numbered) : Type 0 where
  pub small : length gates ≤ most_nodes
  pub each : (k : ℕ) (g : Numbered) → IsGateAt gates k g → MayAdd k g
