-- A small net that is built call by call, for tests. Its sources in the order in which they are put:
--   r 0, c 1    a reset port, active low, and a clock
--   q 2         a flop that takes not q; its pin is s, a copy of r
use Rattle.std.specs.Prelude.{ℕ, true, false, List, [], ◌∷◌, Some}
use Rattle.net_view.specs.declared.gate.Gate.TheVariants.{Source, Not}
use Rattle.net_view.specs.declared.flop_net.SrcKind.TheVariants.{Port, Flop}
use Rattle.net_view.specs.declared.flop_net.FlopOf.{FlopOf}
use Rattle.net_view.specs.View.{Numbered}
use Rattle.net_view.specs.FlopNet.{Kind, Bit}
use Rattle.net_core.specs.Net.{Net}

-- r, c, q
abbrev pub source_gates : List Numbered
source_gates = Source 0 ∷ Source 1 ∷ Source 2 ∷ []

-- and not q
abbrev pub all_gates : List Numbered
all_gates = Source 0 ∷ Source 1 ∷ Source 2 ∷ Not 2 ∷ []

-- r, c, q
abbrev pub source_names : List (List ℕ)
source_names = (114 ∷ []) ∷ (99 ∷ []) ∷ (113 ∷ []) ∷ []

abbrev pub ports : List Kind
ports = Port ∷ Port ∷ Port ∷ []

-- what q is
abbrev pub flop_q : FlopOf ℕ
flop_q = record {
  clock = Some 1;
  rising = true;
  next = Some 3;
  calms = true;
  pin = Some 0;
  high = false;
  reset = false;
  root = 2;
}

abbrev pub all_kinds : List Kind
all_kinds = Port ∷ Port ∷ Flop flop_q ∷ []

-- c, q, r, s
abbrev pub named_bits : List Bit
named_bits =
    record { name = 99 ∷ []; node = 1; root = 0 }
    ∷ record { name = 113 ∷ []; node = 2; root = 1 }
    ∷ record { name = 114 ∷ []; node = 0; root = 2 }
    ∷ record { name = 115 ∷ []; node = 0; root = 2 }
    ∷ []

-- with its sources, with its gate, with its bits, and with its flop
abbrev pub sources_net : Net
sources_net = record { gates = source_gates; names = source_names; kinds = ports; bits = [] }

abbrev pub logic_net : Net
logic_net = record { gates = all_gates; names = source_names; kinds = ports; bits = [] }

abbrev pub named_net : Net
named_net = record { gates = all_gates; names = source_names; kinds = ports; bits = named_bits }

abbrev pub built_net : Net
built_net = record { gates = all_gates; names = source_names; kinds = all_kinds; bits = named_bits }
