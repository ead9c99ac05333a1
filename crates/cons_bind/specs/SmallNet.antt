-- A small net, for tests. Its sources in name order:
--   c 0, d 1, k 2, r 5      input ports: a clock, two inputs and a reset
--   q[0] 3, q[1] 4          flops of a register that take d, and d and q[0]; their pin is r, active low
--   u1.f 6                  a flop without a pin, which takes q[0]
-- Further bits: a+b and v[1] are d and q[0], v[0] is a copy of q[0], and w one of u1.f.
use Rattle.std.specs.Prelude.{ℕ, true, false, List, [], ◌∷◌, Option, Some, None, codes}
use Rattle.net_view.specs.declared.gate.Gate.TheVariants.{Source, And}
use Rattle.net_view.specs.declared.flop_net.SrcKind.TheVariants.{Port, Flop}
use Rattle.net_view.specs.declared.flop_net.FlopOf.{FlopOf}
use Rattle.net_view.specs.View.{Numbered}
use Rattle.net_view.specs.FlopNet.{Kind, Bit}

-- a node for each source, and the gate
abbrev pub small_gates : List Numbered
small_gates = Source 0 ∷ Source 1 ∷ Source 2 ∷ Source 3 ∷ Source 4 ∷ Source 5 ∷ Source 6 ∷ And 1 3 ∷ []

-- the sources' names
abbrev pub small_names : List (List ℕ)
small_names = codes "c" ∷ codes "d" ∷ codes "k" ∷ codes "q[0]" ∷ codes "q[1]" ∷ codes "r" ∷ codes "u1.f" ∷ []

-- a flop of clock c
abbrev pub small_flop : ℕ → Option ℕ → ℕ → FlopOf ℕ
small_flop next pin root = record {
  clock = Some 0;
  rising = true;
  next = Some next;
  calms = true;
  pin = pin;
  high = false;
  reset = false;
  root = root;
}

-- the register and u1.f are flops
abbrev pub small_kinds : List Kind
small_kinds = Port ∷ Port ∷ Port ∷ Flop (small_flop 1 (Some 5) 6) ∷ Flop (small_flop 7 (Some 5) 6) ∷ Port ∷ Flop (small_flop 3 None 7) ∷ []

-- a bit that is its own root, or copies another
abbrev pub small_bit : List ℕ → ℕ → ℕ → Bit
small_bit name node root = record { name = name; node = node; root = root }

-- the bits in name order
abbrev pub small_bits : List Bit
small_bits =
    small_bit (codes "a+b") 7 0
    ∷ small_bit (codes "c") 0 1
    ∷ small_bit (codes "d") 1 2
    ∷ small_bit (codes "k") 2 3
    ∷ small_bit (codes "q[0]") 3 4
    ∷ small_bit (codes "q[1]") 4 5
    ∷ small_bit (codes "r") 5 6
    ∷ small_bit (codes "u1.f") 6 7
    ∷ small_bit (codes "v[0]") 3 4
    ∷ small_bit (codes "v[1]") 7 9
    ∷ small_bit (codes "w") 6 7
    ∷ []
