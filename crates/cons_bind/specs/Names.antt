-- What names are in a net.
--     Net, net_of                    the net: its gates, the names and kinds of its sources, and its bits
--     IsSourceBit net b s            bit b is source s
--     IsPort, IsFlop                 what a source is
--     IsIndexed vector name, IsBitOf net vector b      a bit of a vector
--     IsUnknown, IsVector            a name that is no bit's
--     IsPortBit, IsFlopBit, IsPortOrFlopBit            bits that are ports or flops
use Rattle.std.specs.Prelude.{◌≡◌, ◌≢◌, ◌⊎◌, ℕ, true, List, [], ◌++◌, slice_get, None, Some, codes}
use Rattle.std.specs.List.{list_all}
use Rattle.std.specs.Char.{is_ascii_digit}
use Rattle.net_view.specs.declared.gate.Gate.TheVariants.{Source}
use Rattle.net_view.specs.declared.flop_net.SrcKind.TheVariants.{Port}
use Rattle.net_view.specs.declared.flop_net.FlopOf.{FlopOf}
use Rattle.net_view.specs.View.{Numbered, IsGateAt}
use Rattle.net_view.specs.FlopNet.{Kind, Bit, IsBitAt, FindsBit, IsFlopAt}

-- a net with flops, as far as names go
pub record Net : Type 0 where
  pub gates : List Numbered
  pub names : List (List ℕ)
  pub kinds : List Kind
  pub bits : List Bit

-- the net of these lists
abbrev pub net_of : List Numbered → List (List ℕ) → List Kind → List Bit → Net
net_of gates names kinds bits = record { gates = gates; names = names; kinds = kinds; bits = bits }

-- bit b is source s: it is the source's node, and has its name; a wire that copies the source has another name
pub record IsSourceBit (net : Net) (b s : ℕ) : Type 0 where
  pub bit : Bit
  pub there : IsBitAt net.bits b bit
  pub node : IsGateAt net.gates bit.node (Source s)
  pub name : slice_get net.names s ≡ Some bit.name

-- source s is an input port
abbrev pub IsPort : Net → ℕ → Type 0
IsPort net s = slice_get net.kinds s ≡ Some Port

-- source s is a flop
abbrev pub IsFlop : Net → ℕ → Type 0
IsFlop net s = (f : FlopOf ℕ) × IsFlopAt net.kinds s f

-- bit b is the input port s
abbrev pub IsPortBit : Net → ℕ → ℕ → Type 0
IsPortBit net b s = IsSourceBit net b s × IsPort net s

-- bit b is the flop s
abbrev pub IsFlopBit : Net → ℕ → ℕ → Type 0
IsFlopBit net b s = IsSourceBit net b s × IsFlop net s

-- bit b is the input port or the flop s
abbrev pub IsPortOrFlopBit : Net → ℕ → ℕ → Type 0
IsPortOrFlopBit net b s = IsSourceBit net b s × (IsPort net s ⊎ IsFlop net s)

-- the name is the vector's with an index behind it
pub record IsIndexed (vector name : List ℕ) : Type 0 where
  pub digits : List ℕ
  pub some : digits ≢ []
  pub decimal : list_all is_ascii_digit digits ≡ true
  pub parts : name ≡ vector ++ (codes "[" ++ (digits ++ codes "]"))

-- bit b is one of the vector
abbrev pub IsBitOf : Net → List ℕ → ℕ → Type 0
IsBitOf net vector b = (bit : Bit) × IsBitAt net.bits b bit × IsIndexed vector bit.name

-- no bit has the name, and none is a bit of a vector of that name
abbrev pub IsUnknown : Net → List ℕ → Type 0
IsUnknown net name = FindsBit net.bits name None × ((b : ℕ) → IsBitOf net name b → ⊥)

-- no bit has the name, and some bit is one of a vector of that name
abbrev pub IsVector : Net → List ℕ → Type 0
IsVector net name = FindsBit net.bits name None × ((b : ℕ) × IsBitOf net name b)
