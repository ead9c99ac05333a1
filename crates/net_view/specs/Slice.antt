-- A slice: the nodes in the cones of some roots, as a net of their own.
--   Cut                      a slice over numbers: its gates, and which nodes and sources of the whole it has
--   in_whole, cut_state      a gate of the slice as the whole has it, and a state of the whole as the slice has it
--   HasGatesOf, IsCut, IsSlice the gates, what every slice promises, and what a slice of these roots is
--   KeepsValues              each node has the value that it has in the whole
use Rattle.std.specs.Prelude.{◌≡◌, ℕ, ◌<◌, ◌^◌, List, length, slice_index, All}
use Rattle.std.specs.List.Sorted.{IsStrictlyIncreasing}
use Rattle.net_view.specs.View.{Numbered, renumbered, IsGateAt, IsNet}
use Rattle.net_view.specs.Values.{State, at, values}
use Rattle.net_view.specs.Cone.{InCones, SomeReadsSource, Lists}

-- a slice: its gates, and for each of its nodes and sources the number that the whole has it under
pub record Cut : Type 0 where
  pub whole : List Numbered
  pub whole_sources : ℕ
  pub gates : List Numbered
  pub nodes : List ℕ
  pub sources : List ℕ

-- a gate of the slice, with the whole's numbers
abbrev pub in_whole : List ℕ → List ℕ → Numbered → Numbered
in_whole nodes sources g = renumbered (slice_index nodes) (slice_index sources) g

-- a state of the whole's sources, cut to the slice's
abbrev pub cut_state : List ℕ → State → State
cut_state sources state s = state (slice_index sources s)

-- each gate is the whole's, at the node's number there
abbrev pub HasGatesOf : Cut → Type 0
HasGatesOf cut =
    (k : ℕ) (g : Numbered) → IsGateAt cut.gates k g → IsGateAt cut.whole (slice_index cut.nodes k) (in_whole cut.nodes cut.sources g)

-- what every slice promises: it is a net, of nodes and sources of the whole, in the whole's order
pub record IsCut (cut : Cut) : Type 0 where
  pub net : IsNet cut.gates (length cut.sources)
  pub small : length cut.gates < 2 ^ 32
  pub each_node : length cut.gates ≡ length cut.nodes
  pub ascending : IsStrictlyIncreasing cut.nodes
  pub nodes_inside : All (λ n. n < length cut.whole) cut.nodes
  pub sources_small : length cut.sources < 2 ^ 32
  pub sources_inside : All (λ s. s < cut.whole_sources) cut.sources

-- in each state of the whole each node has the value that it has in the whole
abbrev pub KeepsValues : Cut → Type 0
KeepsValues cut =
    (state : State) (k : ℕ) → k < length cut.gates → at (values cut.gates (cut_state cut.sources state)) k ≡ at (values cut.whole state) (slice_index cut.nodes k)

-- the nodes of the roots' cones and the sources that they read, with the whole's gates
pub record IsSlice (whole : List Numbered) (count : ℕ) (roots : List ℕ) (cut : Cut) : Type 0 where
  pub of_whole : cut.whole ≡ whole
  pub of_sources : cut.whole_sources ≡ count
  pub nodes : Lists (InCones whole roots) cut.nodes
  pub sources : Lists (SomeReadsSource whole roots) cut.sources
  pub gates : HasGatesOf cut
