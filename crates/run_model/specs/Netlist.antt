-- The machine of a net with flops.
--   Netlist                                   what the net is
--   gate_reads, reads_within, node_logic      a node as logic: its value, and the sources in its cone
--   copied_source, copied_bit                 the source that a bit is, if it is one
--   pin_meaning, flop_meaning, source_meaning what a source is
--   level_of, machine_of                      the machine, under declared resets, fixed ports and an order of the flops
use Rattle.std.specs.Prelude.{ℕ, zero, suc, Bool, false, ◌||◌, ◌==◌, if◌then◌else◌, List, [], ◌∷◌, length, slice_get, Option, Some, None, bytes_eq}
use Rattle.std.specs.Option.{option_map}
use Rattle.net_view.specs.declared.gate.Gate.TheVariants.{Const, Source, Not, And, Or, Xor, Pick, Lift}
use Rattle.net_view.specs.declared.flop_net.SrcKind.TheVariants.{Port, BoxOut, Flop}
use Rattle.net_view.specs.declared.flop_net.FlopOf.{FlopOf}
use Rattle.net_view.specs.View.{Numbered}
use Rattle.net_view.specs.Values.{values}
use Rattle.net_view.specs.FlopNet.{Kind, Bit}
use Rattle.run_model.specs.State.{at}
use Rattle.run_model.specs.Machine.{Logic, Pin, FlopMeaning, Meaning, APort, AFlop, Machine}

-- a net with flops: its gates, the names and kinds of its sources, and its bits
pub record Netlist : Type 0 where
  pub gates : List Numbered
  pub names : List (List ℕ)
  pub kinds : List Kind
  pub bits : List Bit

-- the net of these lists
abbrev pub net_of : List Numbered → List (List ℕ) → List Kind → List Bit → Netlist
net_of gates names kinds bits = record { gates = gates; names = names; kinds = kinds; bits = bits }

-- a flop's connections, over numbers
abbrev pub renumbered_flop : {N : Type 0} → (N → ℕ) → FlopOf N → FlopOf ℕ
renumbered_flop number f = record {
  clock = f.clock;
  rising = f.rising;
  next = option_map number f.next;
  calms = f.calms;
  pin = option_map number f.pin;
  high = f.high;
  reset = f.reset;
  root = f.root;
}

-- whether a gate reads source k, where reads says which of its nodes do
abbrev pub gate_reads : Option Numbered → (ℕ → Bool) → ℕ → Bool
gate_reads None reads k = false
gate_reads (Some (Const b)) reads k = false
gate_reads (Some (Source s)) reads k = k == s
gate_reads (Some (Not a)) reads k = reads a
gate_reads (Some (And a b)) reads k = reads a || reads b
gate_reads (Some (Or a b)) reads k = reads a || reads b
gate_reads (Some (Xor a b)) reads k = reads a || reads b
gate_reads (Some (Pick c a b)) reads k = reads c || reads a || reads b
gate_reads (Some (Lift c a b)) reads k = reads c || reads a

-- whether a node reads source k through fewer than so many gates
unfoldable pub reads_within : List Numbered → ℕ → ℕ → ℕ → Bool
reads_within gates zero node k = false
reads_within gates (suc depth) node k = gate_reads (slice_get gates node) (λ j. reads_within gates depth j k) k

-- a node: no path through lower and lower nodes is longer than the net
abbrev pub node_logic : List Numbered → ℕ → Logic
node_logic gates node = record { value = λ s. at (values gates s) node; cone = λ k. reads_within gates (length gates) node k }

-- what a flop takes: its data, or its own value where it has none
abbrev pub data_logic : List Numbered → ℕ → Option ℕ → Logic
data_logic gates n None = record { value = λ s. s n; cone = λ k. k == n }
data_logic gates n (Some node) = node_logic gates node

-- whether the name is there and this one
abbrev pub has_name : Option (List ℕ) → List ℕ → Bool
has_name None name = false
has_name (Some found) name = bytes_eq found name

-- the source whose node and name the bit has
abbrev pub copied_source : Netlist → Bit → Option Numbered → Option ℕ
copied_source net bit None = None
copied_source net bit (Some (Const b)) = None
copied_source net bit (Some (Source s)) = if has_name (slice_get net.names s) bit.name then Some s else None
copied_source net bit (Some (Not a)) = None
copied_source net bit (Some (And a b)) = None
copied_source net bit (Some (Or a b)) = None
copied_source net bit (Some (Xor a b)) = None
copied_source net bit (Some (Pick c a b)) = None
copied_source net bit (Some (Lift c a b)) = None

-- the source that a bit is, if it is one
abbrev pub copied_bit : Netlist → Option Bit → Option ℕ
copied_bit net None = None
copied_bit net (Some bit) = copied_source net bit (slice_get net.gates bit.node)

-- the pin of a flop
abbrev pub pin_meaning : Netlist → FlopOf ℕ → Option ℕ → Option Pin
pin_meaning net f None = None
pin_meaning net f (Some node) =
    Some (record { logic = node_logic net.gates node; high = f.high; root = f.root; copied = copied_bit net (slice_get net.bits f.root) })

-- the flop at source n
abbrev pub flop_meaning : Netlist → ℕ → FlopOf ℕ → FlopMeaning
flop_meaning net n f = record {
  clock = f.clock;
  rising = f.rising;
  reads = data_logic net.gates n f.next;
  pin = pin_meaning net f f.pin;
  reset = f.reset;
}

-- what source n of this kind is; a box's output is as a port
abbrev pub source_meaning : Netlist → ℕ → Option Kind → Meaning
source_meaning net n None = APort
source_meaning net n (Some Port) = APort
source_meaning net n (Some BoxOut) = APort
source_meaning net n (Some (Flop f)) = AFlop (flop_meaning net n f)

-- what each source of a net is
abbrev pub sources_of : Netlist → ℕ → Meaning
sources_of net n = source_meaning net n (slice_get net.kinds n)

-- the level that a list declares for source n, the first that names it
abbrev pub level_of : List (ℕ × Bool) → ℕ → Option Bool
level_of [] n = None
level_of (x ∷ xs) n = if x.0 == n then Some x.1 else level_of xs n

-- the machine of a net
abbrev pub machine_of : Netlist → (ℕ → Option Bool) → (ℕ → Option Bool) → List ℕ → Machine
machine_of net declared fixed order = record {
  count = length net.kinds;
  source = sources_of net;
  declared = declared;
  fixed = fixed;
  order = order;
}
