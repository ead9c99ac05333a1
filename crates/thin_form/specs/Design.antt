-- What a design is: its sources in name order, and its wires. The number of a source is its place.
--     Flop, Kind, Source, Wire      a flop, what a source is, a source and a wire with its name
--     Design                        all of it
--     names d, name_at d n, kind_at d n      the names of the sources, and the name and kind of source n
--     IsAscending ns                the names ascend in byte order
use Rattle.std.specs.Prelude.{ℕ, Bool, List, [], map, slice_index_or}
use Rattle.std.specs.List.Sorted.{IsStrictlySortedBy}
use Rattle.std.specs.Ordering.{nat_cmp}
use Rattle.std.specs.Cmp.Lexicographic.{slice_cmp}
use Rattle.thin_form.specs.Formula.{Formula}

-- a flop: the source that clocks it, the source that resets it and at which level, the value that a reset gives, and what it takes at a rising edge
pub record Flop : Type 0 where
  pub clock : ℕ
  pub pin : ℕ
  pub high : Bool
  pub reset : Bool
  pub next : Formula

-- an input port, or a register with its flop
pub data Kind : Type 0 where
  Input : Kind
  Register : Flop → Kind

-- a port or a register, with its name
pub record Source : Type 0 where
  pub name : List ℕ
  pub kind : Kind

-- a wire, with what it computes
pub record Wire : Type 0 where
  pub name : List ℕ
  pub value : Formula

-- a design: its sources and its wires
pub record Design : Type 0 where
  pub sources : List Source
  pub wires : List Wire

-- the names of the sources
abbrev pub names : Design → List (List ℕ)
names d = map (λ s. s.name) d.sources

-- the kinds of the sources
abbrev pub kinds : Design → List Kind
kinds d = map (λ s. s.kind) d.sources

-- the name of source n
abbrev pub name_at : Design → ℕ → List ℕ
name_at d n = slice_index_or (names d) n []

-- what source n is
abbrev pub kind_at : Design → ℕ → Kind
kind_at d n = slice_index_or (kinds d) n Input

-- the names ascend in byte order
abbrev pub IsAscending : List (List ℕ) → Type 0
IsAscending ns = IsStrictlySortedBy (slice_cmp nat_cmp) ns
