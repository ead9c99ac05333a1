-- Words of the private calls: tables by source, and what is marked in them.
--     Fills                          the sources of the nodes below a bound stand in a table
--     names_in                       the names of a table
--     IsMarked                       a source is marked
--     has_no_clock, clock_in         what a kind says of its clock
--     MarksFail                      what is answered of marked flops and clocks
--     pin_in                         the pin of a source of the kind
--     IsClockIn                      a port that clocks one of some sources
use Rattle.std.specs.Prelude.{◌≡◌, ℕ, ◌<◌, Bool, true, false, IsTrue, List, length, map, slice_get, slice_index_or, Option, Some, None}
use Rattle.std.specs.Borrow.{Bor}
use Rattle.net_view.specs.declared.gate.Gate.TheVariants.{Source}
use Rattle.net_view.specs.declared.flop_net.SrcKind.TheVariants.{Port, BoxOut, Flop}
use Rattle.net_view.specs.View.{Numbered, IsGateAt}
use Rattle.net_view.specs.FlopNet.{Kind}
use Rattle.net_view.specs.PinOrder.{name_of}
use Rattle.reset_trees.specs.declared.fault.TreeFault.{TreeFault}
use Rattle.reset_trees.specs.declared.fault.TreeFault.TheVariants.{Memory, ResetLoop, ClockNotPort, ClockAsData}
use Rattle.reset_trees.specs.Reads.{IsFirst}

-- the table is as long as the whole list, and has its entry for the source of each node below the bound
pub record Fills {X : Type 0} (gates : List Numbered) (whole : List X) (bound : ℕ) (table : List X) : Type 0 where
  pub len : length table ≡ length whole
  pub each : (j s : ℕ) → j < bound → IsGateAt gates j (Source s) → slice_get table s ≡ slice_get whole s

-- the names that a table lends
abbrev pub names_in : List (Bor (List ℕ)) → List (List ℕ)
names_in names = map (λ (n : Bor (List ℕ)). n.now) names

-- source s is marked
abbrev pub IsMarked : List Bool → ℕ → Type 0
IsMarked marks s = IsTrue (slice_index_or marks s false)

-- whether there is no number
abbrev pub is_absent : Option ℕ → Bool
is_absent None = true
is_absent (Some c) = false

-- whether the kind is a flop whose clock is no port
abbrev pub has_no_clock : Kind → Bool
has_no_clock Port = false
has_no_clock BoxOut = false
has_no_clock (Flop f) = is_absent f.clock

-- the port that clocks a source of the kind
abbrev pub clock_in : Kind → Option ℕ
clock_in Port = None
clock_in BoxOut = None
clock_in (Flop f) = f.clock

-- port c clocks a source of one of the kinds
abbrev pub IsClockIn : List Kind → ℕ → Type 0
IsClockIn kinds c = (s : ℕ) × (kind : Kind) × (slice_get kinds s ≡ Some kind) × (clock_in kind ≡ Some c)

-- the pin of a source of the kind
abbrev pub pin_in : Kind → Option ℕ
pin_in Port = None
pin_in BoxOut = None
pin_in (Flop f) = f.pin

-- the first flop of those that are marked, or where there is none the first clock
abbrev pub MarksFail : List (List ℕ) → List Bool → List Bool → TreeFault → Type 0
MarksFail names flops clocks Memory = Unit {0}
MarksFail names flops clocks (ResetLoop loop) = ⊥
MarksFail names flops clocks (ClockNotPort name) = (s : ℕ) × IsFirst names (IsMarked flops) s × (name ≡ name_of names s)
MarksFail names flops clocks (ClockAsData name) =
    ((s : ℕ) → IsMarked flops s → ⊥) × ((c : ℕ) × IsFirst names (IsMarked clocks) c × (name ≡ name_of names c))
