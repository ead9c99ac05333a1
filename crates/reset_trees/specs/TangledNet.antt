-- A small net in two forms, for tests. Its sources are
--   c 0, r 4                input ports: a clock, and a reset
--   z 1, a 2, m 3           flops; the pin of a is z
-- and the pins of z and m are r, so that the order is m, z, a; or, where they are tangled, the pin of z is m and that of m
-- is a, so that each of a, z and m reads the next.
use Rattle.std.specs.Prelude.{ℕ, Bool, true, false, if◌then◌else◌, List, [], ◌∷◌, Some, codes}
use Rattle.net_view.specs.declared.gate.Gate.TheVariants.{Source}
use Rattle.net_view.specs.declared.flop_net.SrcKind.TheVariants.{Port, Flop}
use Rattle.net_view.specs.declared.flop_net.FlopOf.{FlopOf}
use Rattle.net_view.specs.View.{Numbered}
use Rattle.net_view.specs.FlopNet.{Kind, Bit}

-- a node for each source
abbrev pub tangled_gates : List Numbered
tangled_gates = Source 0 ∷ Source 1 ∷ Source 2 ∷ Source 3 ∷ Source 4 ∷ []

-- the sources' names
abbrev pub tangled_names : List (List ℕ)
tangled_names = codes "c" ∷ codes "z" ∷ codes "a" ∷ codes "m" ∷ codes "r" ∷ []

-- a flop of clock c with such a pin
abbrev pub tangled_flop : ℕ → ℕ → FlopOf ℕ
tangled_flop pin root = record {
  clock = Some 0;
  rising = true;
  next = Some 4;
  calms = true;
  pin = Some pin;
  high = false;
  reset = false;
  root = root;
}

-- the kinds, tangled or not
abbrev pub tangled_kinds : Bool → List Kind
tangled_kinds tangled =
    Port
    ∷ Flop (if tangled then tangled_flop 3 2 else tangled_flop 4 3)
    ∷ Flop (tangled_flop 1 4)
    ∷ Flop (if tangled then tangled_flop 2 0 else tangled_flop 4 3)
    ∷ Port
    ∷ []

-- a bit that is its own root
abbrev pub tangled_bit : List ℕ → ℕ → ℕ → Bit
tangled_bit name node number = record { name = name; node = node; root = number }

-- the bits in name order
abbrev pub tangled_bits : List Bit
tangled_bits =
    tangled_bit (codes "a") 2 0
    ∷ tangled_bit (codes "c") 0 1
    ∷ tangled_bit (codes "m") 3 2
    ∷ tangled_bit (codes "r") 4 3
    ∷ tangled_bit (codes "z") 1 4
    ∷ []
