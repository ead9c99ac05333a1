-- A net with flops over numbers, while it is built and once it is whole.
--   Net, empty_net, with_gates          its gates, its sources' names and kinds, its named bits
--   with_source, with_kind, with_bit    a net with one more source, another kind, one more bit
--   MayAdd, IsFit, ReadsNodes, ComesLast  when a gate may be added, a kind given, a name be the next bit's
--   most_nodes, IsRefusedAt             how many nodes there are at most, and when one more is refused
--   IsDraft, IsWhole, IsFlat            what holds while it is built, when it may be finished, and from then on
use Rattle.std.specs.Prelude.{◌≡◌, ℕ, ◌-◌, ◌<◌, ◌≤◌, ◌^◌, List, [], ◌∷◌, ◌++◌, length, slice_get, slice_set, Some, IfSome}
use Rattle.std.specs.Ordering.{nat_cmp}
use Rattle.std.specs.declared.cmp.Ordering.TheVariants.{Less}
use Rattle.std.specs.Cmp.Lexicographic.{slice_cmp}
use Rattle.net_view.specs.declared.gate.Gate.TheVariants.{Const, Source, Not, And, Or, Xor, Pick, Lift}
use Rattle.net_view.specs.declared.flop_net.SrcKind.TheVariants.{Port, BoxOut, Flop}
use Rattle.net_view.specs.declared.flop_net.FlopOf.{FlopOf}
use Rattle.net_core.specs.declared.folds.Made.{Made}
use Rattle.net_core.specs.declared.folds.Made.TheVariants.{There, New}
use Rattle.net_core.specs.declared.fault.NetFault.{NetFault}
use Rattle.net_core.specs.declared.fault.NetFault.TheVariants.{Memory, Full}
use Rattle.net_view.specs.View.{Numbered, IsGateAt, IsNet}
use Rattle.net_view.specs.FlopNet.{Kind, Bit, IsPlain, IsBitAt, IsInNameOrder, IsFlopAt, IsFlopNet}

-- the gates, the name and the kind of each source, and the named bits
pub record Net : Type 0 where
  pub gates : List Numbered
  pub names : List (List ℕ)
  pub kinds : List Kind
  pub bits : List Bit

-- the net of nothing
abbrev pub empty_net : Net
empty_net = record { gates = []; names = []; kinds = []; bits = [] }

-- the net with other gates
abbrev pub with_gates : Net → List Numbered → Net
with_gates net gates = record { gates = gates; names = net.names; kinds = net.kinds; bits = net.bits }

-- the net with one more source, a port, and its node
abbrev pub with_source : Net → List ℕ → Net
with_source net name = record {
  gates = net.gates ++ Source (length net.names) ∷ [];
  names = net.names ++ name ∷ [];
  kinds = net.kinds ++ Port ∷ [];
  bits = net.bits;
}

-- the net with another kind of source s
abbrev pub with_kind : Net → ℕ → Kind → Net
with_kind net s kind = record { gates = net.gates; names = net.names; kinds = slice_set net.kinds s kind; bits = net.bits }

-- the net with one more named bit
abbrev pub with_bit : Net → Bit → Net
with_bit net bit = record { gates = net.gates; names = net.names; kinds = net.kinds; bits = net.bits ++ bit ∷ [] }

-- a gate of a design that is no source, over nodes below a number
abbrev pub MayAdd : ℕ → Numbered → Type 0
MayAdd count (Const b) = Unit {0}
MayAdd count (Source s) = ⊥
MayAdd count (Not a) = a < count
MayAdd count (And a b) = (a < count) × (b < count)
MayAdd count (Or a b) = (a < count) × (b < count)
MayAdd count (Xor a b) = (a < count) × (b < count)
MayAdd count (Pick c a b) = ⊥
MayAdd count (Lift c a r) = ⊥

-- what stands for a gate is a node below a number, or a gate that may be added
abbrev pub IsFit : ℕ → Made → Type 0
IsFit count (There n) = n < count
IsFit count (New g) = MayAdd count g

-- the nodes that a kind names are below a number
abbrev pub ReadsNodes : ℕ → Kind → Type 0
ReadsNodes count Port = Unit {0}
ReadsNodes count BoxOut = Unit {0}
ReadsNodes count (Flop f) = IfSome f.next (λ n. n < count) × IfSome f.pin (λ p. p < count)

-- the name stands after the last bit's, in byte order
abbrev pub ComesLast : List Bit → List ℕ → Type 0
ComesLast bits name = (bit : Bit) → IsBitAt bits (length bits - 1) bit → slice_cmp nat_cmp bit.name name ≡ Less

-- the most nodes that a net has
abbrev pub most_nodes : ℕ
most_nodes = 16777216

-- with so many nodes one more is refused: it is full exactly where it has the most, and elsewhere only memory is wanting
abbrev pub IsRefusedAt : ℕ → NetFault → Type 0
IsRefusedAt count Full = count ≡ most_nodes
IsRefusedAt count Memory = count < most_nodes

-- what holds while it is built
pub record IsDraft (net : Net) : Type 0 where
  pub net_is : IsNet net.gates (length net.names)
  pub small : length net.gates ≤ most_nodes
  pub plain : (k : ℕ) (g : Numbered) → IsGateAt net.gates k g → IsPlain g
  pub each_has_node : length net.names ≤ length net.gates
  pub each_kind : length net.kinds ≡ length net.names
  pub reads : (s : ℕ) (kind : Kind) → slice_get net.kinds s ≡ Some kind → ReadsNodes (length net.gates) kind
  pub few_bits : length net.bits < 2 ^ 32
  pub ordered : IsInNameOrder net.bits
  pub bit_nodes : (b : ℕ) (bit : Bit) → IsBitAt net.bits b bit → bit.node < length net.gates

-- each clock is a port, each root a bit, and the root of a pin has the pin's node
pub record IsWhole (net : Net) : Type 0 where
  pub clocks : (s : ℕ) (f : FlopOf ℕ) → IsFlopAt net.kinds s f → IfSome f.clock (λ c. slice_get net.kinds c ≡ Some Port)
  pub pins : (s : ℕ) (f : FlopOf ℕ) → IsFlopAt net.kinds s f → IfSome f.pin (λ p. (bit : Bit) × IsBitAt net.bits f.root bit × (bit.node ≡ p))
  pub roots : (b : ℕ) (bit : Bit) → IsBitAt net.bits b bit → bit.root < length net.bits

-- what every finished net promises
pub record IsFlat (net : Net) : Type 0 where
  pub draft : IsDraft net
  pub whole : IsFlopNet net.gates (length net.names) net.names net.kinds net.bits
