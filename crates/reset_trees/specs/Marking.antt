-- Words of the private calls: tables of levels, and what they say of what data and pins read.
--     level_at, AreLevels            the level of each source
--     data_in                        a flop and its data
--     ReadsSame                      data reads nothing but what it may
--     IsMarkedCalm, IsRoot           a calm, and the source that a bit is, if it is one
--     AreCalmsOf                     the calms of some flops and sources
use Rattle.std.specs.Prelude.{◌≡◌, ℕ, Bool, List, slice_get, slice_index_or, Option, Some, None, MatchOption, All, AllPairs, Contains}
use Rattle.std.specs.Option.{option_map}
use Rattle.net_view.specs.declared.flop_net.FlopOf.{FlopOf}
use Rattle.net_view.specs.declared.flop_net.SrcKind.TheVariants.{Port, BoxOut, Flop}
use Rattle.net_view.specs.FlopNet.{Kind}
use Rattle.cons_bind.specs.Names.{Net, IsSourceBit}
use Rattle.cons_bind.specs.declared.bound.BoundForm.{BoundForm}
use Rattle.reset_trees.specs.Roles.{level_of}
use Rattle.reset_trees.specs.Same.{IsSameSource, IsCalm}
use Rattle.reset_trees.specs.declared.answers.Marked.{Marked}
use Rattle.reset_trees.specs.Problems.{IsCalmMark, IsCalmBy, IsBefore}

-- the level of source s in a table
abbrev pub level_at : List (Option Bool) → ℕ → Option Bool
level_at levels s = slice_index_or levels s None

-- the table has the level of each source that the lines declare a reset
abbrev pub AreLevels : List BoundForm → List (Option Bool) → Type 0
AreLevels lines levels = (s : ℕ) → level_at levels s ≡ level_of lines s

-- the flop of a source of the kind, and its data
abbrev pub data_in : Kind → Option (FlopOf ℕ × ℕ)
data_in Port = None
data_in BoxOut = None
data_in (Flop f) = option_map (λ (n : ℕ). (f, n)) f.next

-- each source with the property is one that the data of f may read
abbrev pub ReadsSame : List Kind → List (Option Bool) → FlopOf ℕ → (ℕ → Type 0) → Type 0
ReadsSame kinds levels f P = (s : ℕ) → P s → (kind : Kind) → slice_get kinds s ≡ Some kind → IsSameSource f kind (level_at levels s)

-- a calm of flop n by source s, which is direct where that is so
pub record IsMarkedCalm (n s : ℕ) (IsSo : Type 0) (calm : Marked) : Type 0 where
  pub flop : calm.flop ≡ n
  pub by : calm.by ≡ Some s
  pub mark : IsCalmMark IsSo calm.mark

-- the source that bit b is, if it is one
abbrev pub IsRoot : Net → ℕ → Option ℕ → Type 0
IsRoot net b root = MatchOption root ((s : ℕ) → IsSourceBit net b s → ⊥) (λ s. IsSourceBit net b s)

-- the calms of the flops and sources with the property, by flop and then by source
pub record AreCalmsOf (net : Net) (lines : List BoundForm) (P : ℕ → ℕ → Type 0) (calms : List Marked) : Type 0 where
  pub ordered : AllPairs IsBefore calms
  pub each : All (λ (c : Marked). (s : ℕ) × IsCalmBy net lines c s × P c.flop s) calms
  pub whole : (f s : ℕ) → IsCalm net lines f s → P f s → (c : Marked) × Contains calms c × (c.flop ≡ f) × (c.by ≡ Some s)
