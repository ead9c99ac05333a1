-- Words of the calls that find the pin order: flops by place in a list.
--   AreNamed, AreFlops          flops with their names and numbers, and which flops they are
--   IsNamedInOrder              all flops, in name order
--   IsPlaced                    the place of each source
--   ArePlaces                   the places of some sources
--   IsNeedOf, HaveNeeds         what a flop needs, by place
use Rattle.std.specs.Prelude.{◌≡◌, ◌≢◌, ◌↔◌, ℕ, ◌<◌, List, length, map, Option, Some, None, slice_index, slice_index_or, Contains, All, AllPairs}
use Rattle.std.specs.Borrow.{Bor}
use Rattle.net_view.specs.declared.flop_net.FlopOf.{FlopOf}
use Rattle.net_view.specs.View.{Numbered}
use Rattle.net_view.specs.FlopNet.{Kind, IsFlopAt}
use Rattle.net_view.specs.Cone.{ReadsSource}
use Rattle.net_view.specs.Queue.{Needs}
use Rattle.net_view.specs.PinOrder.{IsFlop, IsFlopNode, IsNamedBefore, name_of}

-- each with its name and its number
abbrev pub AreNamed : {S : Type 0} → (S → ℕ) → ℕ → List (List ℕ) → List (Bor (List ℕ) × ℕ × S) → Type 0
AreNamed number count names flops = All (λ f. (number f.2 < count) × (number f.2 ≡ f.1) × (name_of names f.1 ≡ f.0.now)) flops

-- the flops among the nodes below a bound, no two alike
pub record AreFlops (gates : List Numbered) (kinds : List Kind) (bound : ℕ) (flops : List ℕ) : Type 0 where
  pub each : (s : ℕ) → Contains flops s ↔ ((n : ℕ) × (n < bound) × IsFlopNode gates kinds n s)
  pub apart : AllPairs (λ a b. a ≢ b) flops

pub record IsNamedInOrder (names : List (List ℕ)) (kinds : List Kind) (flops : List ℕ) : Type 0 where
  pub whole : (s : ℕ) → Contains flops s ↔ IsFlop kinds s
  pub ordered : (i j : ℕ) → i < j → j < length flops → IsNamedBefore names (slice_index flops i) (slice_index flops j)

-- the place of each source among the flops, none for the others
pub record IsPlaced (flops : List ℕ) (count : ℕ) (places : List (Option ℕ)) : Type 0 where
  pub each_source : length places ≡ count
  pub some : (s k : ℕ) → slice_index_or places s None ≡ Some k → (k < length flops) × (slice_index flops k ≡ s)
  pub none : (s : ℕ) → slice_index_or places s None ≡ None → Contains flops s → ⊥

-- a source that the flop's pin reads has place j
pub record IsNeedOf (gates : List Numbered) (kinds : List Kind) (places : List (Option ℕ)) (f j : ℕ) : Type 0 where
  pub flop : FlopOf ℕ
  pub is_flop : IsFlopAt kinds f flop
  pub pin : ℕ
  pub has_pin : flop.pin ≡ Some pin
  pub source : ℕ
  pub reads : ReadsSource gates pin source
  pub place : slice_index_or places source None ≡ Some j

-- the places of those of some sources that have one
pub record ArePlaces (read : List ℕ) (places : List (Option ℕ)) (needs : List ℕ) : Type 0 where
  pub each : (j : ℕ) → Contains needs j ↔ ((s : ℕ) × Contains read s × (slice_index_or places s None ≡ Some j))

-- so many flops have their needs
pub record HaveNeeds (gates : List Numbered) (kinds : List Kind) (places : List (Option ℕ)) (flops : List ℕ) (count : ℕ) (needs : List (List ℕ)) : Type 0 where
  pub count_is : length needs ≡ count
  pub each : (i j : ℕ) → i < count → Needs needs i j ↔ IsNeedOf gates kinds places (slice_index flops i) j
