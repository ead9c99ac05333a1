-- Words of the calls that find a cone and cut a slice.
--   Adds, IsEither      numbers that come to those that are due
--   IsSourceAmong       the sources among some nodes
--   HoldsReads, Cuts    nodes with all that they read, and the first gates of a slice of them
use Rattle.std.specs.Prelude.{◌≡◌, ◌⊎◌, ◌↔◌, ℕ, ◌<◌, List, length, slice_index, Contains}
use Rattle.net_view.specs.declared.gate.Gate.TheVariants.{Source}
use Rattle.net_view.specs.View.{Numbered, Reads, IsGateAt}
use Rattle.net_view.specs.Slice.{in_whole}

-- the new list has what the old one had, and the numbers with the property
pub record Adds (P : ℕ → Type 0) (old new : List ℕ) : Type 0 where
  pub each : (n : ℕ) → Contains new n ↔ (P n ⊎ Contains old n)

-- n is one of the two
abbrev pub IsEither : ℕ → ℕ → ℕ → Type 0
IsEither a b n = (n ≡ a) ⊎ (n ≡ b)

-- one of the nodes is source s
abbrev pub IsSourceAmong : List Numbered → List ℕ → ℕ → Type 0
IsSourceAmong gates nodes s = (n : ℕ) × Contains nodes n × IsGateAt gates n (Source s)

-- what the nodes read is among the nodes and the sources
abbrev pub HoldsReads : List Numbered → List ℕ → List ℕ → Type 0
HoldsReads whole nodes sources = (n : ℕ) (g : Numbered) → Contains nodes n → IsGateAt whole n g → Reads (Contains nodes) (Contains sources) g

-- so many gates, each the whole's of its node, over the numbers of the nodes and the sources
pub record Cuts (whole : List Numbered) (nodes sources : List ℕ) (gates : List Numbered) (count : ℕ) : Type 0 where
  pub each_node : length gates ≡ count
  pub each_gate : (k : ℕ) (g : Numbered) → IsGateAt gates k g → IsGateAt whole (slice_index nodes k) (in_whole nodes sources g)
  pub inside : (k : ℕ) (g : Numbered) → IsGateAt gates k g → Reads (λ j. j < length nodes) (λ s. s < length sources) g
