-- Where drawn gates stand in a net: a leaf where what it stands for stands, another gate over the nodes of what it reads.
--   Work                     the gates of the net, and the node of each drawn gate that stands there
--   number_in, number_at     the node of a drawn gate
--   leaf_at                  the node of a leaf: that of its bit's root, or for a leaf past the bits a source's
--   made, put, placed        a drawn gate's node, one gate more, and some in order; nothing where the net is full before
use Rattle.std.specs.Prelude.{ℕ, ◌-◌, false, List, [], ◌∷◌, length, set, slice_get, slice_index_or, Option, Some, None, if◌then◌else◌, ◌==◌}
use Rattle.net_view.specs.declared.gate.Gate.TheVariants.{Const, Source, Not, And, Or, Xor, Pick, Lift}
use Rattle.net_view.specs.View.{Numbered}
use Rattle.net_core.specs.Folds.{folded, added, node_of}
use Rattle.net_core.specs.Net.{most_nodes}

-- the gates of the net, and the node of each drawn gate that stands there
pub record Work : Type 0 where
  pub gates : List Numbered
  pub places : List (Option ℕ)

-- a node, and the gates once it is there
pub record Standing : Type 0 where
  pub node : ℕ
  pub gates : List Numbered

abbrev pub number_in : Option ℕ → ℕ
number_in None = 0
number_in (Some n) = n

-- the node of a drawn gate
abbrev pub number_at : List (Option ℕ) → ℕ → ℕ
number_at places k = number_in (slice_index_or places k None)

-- the node of a leaf: so many numbers past the bits, or of a bit with a root
abbrev pub leaf_of : List ℕ → List (Option ℕ) → ℕ → Option (Option ℕ) → ℕ
leaf_of sources places past None = slice_index_or sources past 0
leaf_of sources places past (Some root) = number_at places (number_in root)

-- the node of a leaf
abbrev pub leaf_at : List (Option ℕ) → List ℕ → List (Option ℕ) → ℕ → ℕ
leaf_at roots sources places b = leaf_of sources places (b - length roots) (slice_get roots b)

-- a gate over the nodes of those it reads
abbrev pub over : (ℕ → ℕ) → Numbered → Numbered
over at (Const b) = Const b
over at (Source s) = Source s
over at (Not a) = Not (at a)
over at (And a b) = And (at a) (at b)
over at (Or a b) = Or (at a) (at b)
over at (Xor a b) = Xor (at a) (at b)
over at (Pick c a b) = Pick (at c) (at a) (at b)
over at (Lift c a r) = Lift (at c) (at a) r

-- a gate over nodes, added to a net that isn't full
abbrev pub added_to : List Numbered → Numbered → Option Standing
added_to gates g = if length gates == most_nodes then None else Some (record { node = node_of gates (folded gates g); gates = added gates (folded gates g) })

-- the node of a drawn gate, where what it reads stands
abbrev pub made : List (Option ℕ) → List ℕ → Work → Numbered → Option Standing
made roots sources w (Source b) = Some (record { node = leaf_at roots sources w.places b; gates = w.gates })
made roots sources w g = added_to w.gates (over (number_at w.places) g)

-- drawn gate k stands
abbrev pub stood : ℕ → Work → Standing → Work
stood k w s = record { gates = s.gates; places = set w.places k (Some s.node) }

-- the gate of a number
abbrev pub gate_at : List Numbered → ℕ → Numbered
gate_at gates k = slice_index_or gates k (Const false)

-- what comes next, where there is a node
abbrev pub onward : Option Standing → (Standing → Option Work) → Option Work
onward None next = None
onward (Some s) next = next s

-- some drawn gates, one after the other
abbrev pub placed : List Numbered → List (Option ℕ) → List ℕ → List ℕ → Work → Option Work
placed gates roots sources [] w = Some w
placed gates roots sources (k ∷ ks) w = onward (made roots sources w (gate_at gates k)) (λ s. placed gates roots sources ks (stood k w s))
