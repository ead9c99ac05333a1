-- The small machine of Example.antt as a net: one node a source, and the two pins as named bits.
--   example_gates, example_names, example_flop, example_kinds, example_bits      its lists
--   example_netlist, example_resets                                              the net, and its declared resets
use Rattle.std.specs.Prelude.{ℕ, Bool, true, false, List, [], ◌∷◌, Some}
use Rattle.net_view.specs.declared.gate.Gate.TheVariants.{Source}
use Rattle.net_view.specs.declared.flop_net.SrcKind.TheVariants.{Port, Flop}
use Rattle.net_view.specs.declared.flop_net.FlopOf.{FlopOf}
use Rattle.net_view.specs.View.{Numbered}
use Rattle.net_view.specs.FlopNet.{Kind, Bit}
use Rattle.run_model.specs.Netlist.{Netlist, net_of}

-- a node for each source
abbrev pub example_gates : List Numbered
example_gates = Source 0 ∷ Source 1 ∷ Source 2 ∷ Source 3 ∷ Source 4 ∷ Source 5 ∷ Source 6 ∷ []

-- a, ca, cb, d, q, ra, rb
abbrev pub example_names : List (List ℕ)
example_names =
    (97 ∷ []) ∷ (99 ∷ 97 ∷ []) ∷ (99 ∷ 98 ∷ []) ∷ (100 ∷ []) ∷ (113 ∷ []) ∷ (114 ∷ 97 ∷ []) ∷ (114 ∷ 98 ∷ []) ∷ []

-- a flop of a rising clock with data, an active low pin, its bit, and reset value 0
abbrev pub example_flop : ℕ → ℕ → ℕ → ℕ → FlopOf ℕ
example_flop clock next pin root = record {
  clock = Some clock;
  rising = true;
  next = Some next;
  calms = true;
  pin = Some pin;
  high = false;
  reset = false;
  root = root;
}

-- a and q are flops
abbrev pub example_kinds : List Kind
example_kinds = Flop (example_flop 1 3 5 0) ∷ Port ∷ Port ∷ Port ∷ Flop (example_flop 2 0 6 1) ∷ Port ∷ Port ∷ []

-- ra is bit 0, rb is bit 1
abbrev pub example_bits : List Bit
example_bits = record { name = 114 ∷ 97 ∷ []; node = 5; root = 0 } ∷ record { name = 114 ∷ 98 ∷ []; node = 6; root = 1 } ∷ []

-- the net
abbrev pub example_netlist : Netlist
example_netlist = net_of example_gates example_names example_kinds example_bits

-- ra and rb are declared active low
abbrev pub example_resets : List (ℕ × Bool)
example_resets = (5, false) ∷ (6, false) ∷ []
