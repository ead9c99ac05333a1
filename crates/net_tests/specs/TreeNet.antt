-- A small net with a reset tree, for tests. Its sources in name order:
--   c 0, d 1    a clock and an input
--   f 2         a flop without a pin, which takes d
--   h 3, p 5    reset ports, h active high, p active low
--   n 4         a flop of the falling edge, which takes t; its pin is h, its reset value 1
--   s 6         a flop that takes d; its pin is p
--   t 7         a flop that takes f; its pin is r, active low: p and not s
--   u 8         a flop that takes d; its pin is s, active low
use Rattle.std.specs.Prelude.{ℕ, Bool, true, false, List, [], ◌∷◌, Option, Some, None}
use Rattle.net_view.specs.declared.gate.Gate.TheVariants.{Source, Not, And}
use Rattle.net_view.specs.declared.flop_net.SrcKind.TheVariants.{Port, Flop}
use Rattle.net_view.specs.declared.flop_net.FlopOf.{FlopOf}
use Rattle.net_view.specs.View.{Numbered}
use Rattle.net_view.specs.FlopNet.{Kind, Bit}

-- a node for each source, not s, and r
abbrev pub tree_gates : List Numbered
tree_gates = Source 0 ∷ Source 1 ∷ Source 2 ∷ Source 3 ∷ Source 4 ∷ Source 5 ∷ Source 6 ∷ Source 7 ∷ Source 8 ∷ Not 6 ∷ And 5 9 ∷ []

-- c, d, f, h, n, p, s, t, u
abbrev pub tree_names : List (List ℕ)
tree_names = (99 ∷ []) ∷ (100 ∷ []) ∷ (102 ∷ []) ∷ (104 ∷ []) ∷ (110 ∷ []) ∷ (112 ∷ []) ∷ (115 ∷ []) ∷ (116 ∷ []) ∷ (117 ∷ []) ∷ []

-- a flop of clock c
abbrev pub tree_flop : Bool → ℕ → Option ℕ → Bool → Bool → ℕ → FlopOf ℕ
tree_flop rising next pin high reset root = record {
  clock = Some 0;
  rising = rising;
  next = Some next;
  calms = true;
  pin = pin;
  high = high;
  reset = reset;
  root = root;
}

-- f, n, s, t and u are flops
abbrev pub tree_kinds : List Kind
tree_kinds =
    Port ∷ Port ∷ Flop (tree_flop true 1 None false false 0) ∷ Port ∷ Flop (tree_flop false 7 (Some 3) true true 0)
    ∷ Port ∷ Flop (tree_flop true 1 (Some 5) false false 1) ∷ Flop (tree_flop true 2 (Some 10) false false 2)
    ∷ Flop (tree_flop true 1 (Some 6) false false 3) ∷ []

-- h, p, r, s
abbrev pub tree_bits : List Bit
tree_bits =
    record { name = 104 ∷ []; node = 3; root = 0 }
    ∷ record { name = 112 ∷ []; node = 5; root = 1 }
    ∷ record { name = 114 ∷ []; node = 10; root = 2 }
    ∷ record { name = 115 ∷ []; node = 6; root = 3 }
    ∷ []
