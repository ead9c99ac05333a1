-- A net with flops: the names and kinds of its sources, and its named bits.
--   Kind, Bit, renumbered_kind           what a source and a bit are, over numbers
--   IsPlain                              the gates that a design is made of
--   IsBitAt, IsInNameOrder, FindsBit     bits by number and by name
--   IsFlopAt, IsConnected, IsFlopNet     what every net with flops promises
use Rattle.std.specs.Prelude.{◌≡◌, ◌≢◌, ℕ, ◌<◌, ◌≤◌, false, List, length, slice_get, Option, None, Some, IfSome}
use Rattle.std.specs.Option.{option_map}
use Rattle.std.specs.Ordering.{nat_cmp, is_gt}
use Rattle.std.specs.Cmp.Lexicographic.{slice_cmp}
use Rattle.net_view.specs.declared.gate.Gate.TheVariants.{Const, Source, Not, And, Or, Xor, Pick, Lift}
use Rattle.net_view.specs.declared.flop_net.SrcKind.{SrcKind}
use Rattle.net_view.specs.declared.flop_net.SrcKind.TheVariants.{Port, BoxOut, Flop}
use Rattle.net_view.specs.declared.flop_net.FlopOf.{FlopOf}
use Rattle.net_view.specs.View.{Numbered, IsGateAt}

-- a source's kind, over numbers
abbrev pub Kind : Type 0
Kind = SrcKind ℕ

-- a named bit: the node that it is, and the bit that it copies
pub record Bit : Type 0 where
  pub name : List ℕ
  pub node : ℕ
  pub root : ℕ

-- a kind with each node replaced by its number
abbrev pub renumbered_kind : {N : Type 0} → (N → ℕ) → SrcKind N → Kind
renumbered_kind n Port = Port
renumbered_kind n BoxOut = BoxOut
renumbered_kind n (Flop f) =
    Flop (record {
      clock = f.clock;
      rising = f.rising;
      next = option_map n f.next;
      calms = f.calms;
      pin = option_map n f.pin;
      high = f.high;
      reset = f.reset;
      root = f.root;
    })

-- a gate of a design: where its inputs are settled it is settled
abbrev pub IsPlain : Numbered → Type 0
IsPlain (Const b) = Unit {0}
IsPlain (Source s) = Unit {0}
IsPlain (Not a) = Unit {0}
IsPlain (And a b) = Unit {0}
IsPlain (Or a b) = Unit {0}
IsPlain (Xor a b) = Unit {0}
IsPlain (Pick c a b) = ⊥
IsPlain (Lift c a r) = ⊥

-- bit b is this one
abbrev pub IsBitAt : List Bit → ℕ → Bit → Type 0
IsBitAt bits b bit = slice_get bits b ≡ Some bit

-- no bit's name comes after a later bit's, in byte order
abbrev pub IsInNameOrder : List Bit → Type 0
IsInNameOrder bits = (j k : ℕ) (a b : Bit) → j ≤ k → IsBitAt bits j a → IsBitAt bits k b → is_gt (slice_cmp nat_cmp a.name b.name) ≡ false

-- the least bit of the name, or none where no bit has it
abbrev pub FindsBit : List Bit → List ℕ → Option ℕ → Type 0
FindsBit bits name None = (b : ℕ) (bit : Bit) → IsBitAt bits b bit → bit.name ≢ name
FindsBit bits name (Some b) =
    ((bit : Bit) × IsBitAt bits b bit × (bit.name ≡ name)) × ((k : ℕ) (bit : Bit) → k < b → IsBitAt bits k bit → bit.name ≢ name)

-- source s is a flop with these connections
abbrev pub IsFlopAt : List Kind → ℕ → FlopOf ℕ → Type 0
IsFlopAt kinds s f = slice_get kinds s ≡ Some (Flop f)

-- what a flop is connected to is there
pub record IsConnected (gates : List Numbered) (kinds : List Kind) (bits : List Bit) (f : FlopOf ℕ) : Type 0 where
  pub clock : IfSome f.clock (λ c. slice_get kinds c ≡ Some Port)
  pub next : IfSome f.next (λ n. n < length gates)
  pub pin : IfSome f.pin (λ p. p < length gates)
  -- the pin's node is that of the bit that it is a copy of
  pub root : IfSome f.pin (λ p. (bit : Bit) × IsBitAt bits f.root bit × (bit.node ≡ p))

-- what every net with flops promises
pub record IsFlopNet (gates : List Numbered) (sources : ℕ) (names : List (List ℕ)) (kinds : List Kind) (bits : List Bit) : Type 0 where
  pub small : length gates ≤ 16777216
  pub plain : (k : ℕ) (g : Numbered) → IsGateAt gates k g → IsPlain g
  pub each_named : length names ≡ sources
  pub each_kind : length kinds ≡ sources
  pub flops : (s : ℕ) (f : FlopOf ℕ) → IsFlopAt kinds s f → IsConnected gates kinds bits f
  pub ordered : IsInNameOrder bits
  pub bit_nodes : (b : ℕ) (bit : Bit) → IsBitAt bits b bit → bit.node < length gates
  pub bit_roots : (b : ℕ) (bit : Bit) → IsBitAt bits b bit → bit.root < length bits
