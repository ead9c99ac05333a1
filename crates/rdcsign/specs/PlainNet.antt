-- A design of the first form as a net: its nodes as gates, and its named bits.
--     gate_of, gates_of, kind_in_net, kinds_of, names_of, bits_from      the parts of the net
--     net_machine, HasBitValues      its machine, and what its named bits are worth
use Rattle.std.specs.Prelude.{◌≡◌, ℕ, ◌+◌, true, List, [], ◌∷◌, map, slice_get, Some}
use Rattle.net_view.specs.declared.gate.Gate.TheVariants as gates
use Rattle.net_view.specs.declared.flop_net.SrcKind.TheVariants as connections
use Rattle.net_view.specs.View.{Numbered}
use Rattle.net_view.specs.Values.{State, at, values}
use Rattle.net_view.specs.FlopNet as nets
use Rattle.run_model.specs.Machine.{Machine}
use Rattle.run_model.specs.Netlist as machines
use Rattle.thin_form.specs.Netlist.{Netlist, NetBit, bit_of, formulas, formula_at, design_of}
use Rattle.thin_form.specs.declared.kind.Kind.{Kind}
use Rattle.thin_form.specs.declared.kind.Kind.TheVariants.{Input, Register}
use Rattle.thin_form.specs.declared.kind.Node.{Node}
use Rattle.thin_form.specs.declared.kind.Node.TheVariants as node
use Rattle.thin_cons.specs.Roles.{role_at}
use Rattle.thin_cons.specs.declared.role.Role.{Role}
use Rattle.rdcsign.specs.FormulaValue.{formula_value}
use Rattle.rdcsign.specs.DesignMachine.{level_of, clock_value, flops_from}

-- the gate of a node
abbrev pub gate_of : Node → Numbered
gate_of (node.Source n) = gates.Source n
gate_of (node.Not a) = gates.Not a
gate_of (node.And a b) = gates.And a b
gate_of (node.Or a b) = gates.Or a b

-- the gates, one a node
abbrev pub gates_of : Netlist → List Numbered
gates_of net = map gate_of net.nodes

-- what a source of the design is in the net
abbrev pub kind_in_net : Netlist → Kind → nets.Kind
kind_in_net net Input = connections.Port
kind_in_net net (Register f) =
    connections.Flop (record {
      clock = Some f.clock;
      rising = true;
      next = Some f.«data»;
      calms = true;
      pin = Some f.pin;
      high = f.high;
      reset = f.reset;
      root = bit_of net f.pin;
    })

-- what drives each source
abbrev pub kinds_of : Netlist → List nets.Kind
kinds_of net = map (λ s. kind_in_net net s.kind) net.sources

-- the name of each source
abbrev pub names_of : Netlist → List (List ℕ)
names_of net = map (λ s. s.name) net.sources

-- the bits from bit b on, each its own root: no pin of this form is a wire
abbrev pub bits_from : ℕ → List NetBit → List nets.Bit
bits_from b [] = []
bits_from b (x ∷ xs) = record { name = x.name; node = x.node; root = b } ∷ bits_from (b + 1) xs

-- the machine of the net, under the roles of its sources
abbrev pub net_machine : Netlist → List Role → Machine
net_machine net roles =
    machines.machine_of (machines.net_of (gates_of net) (names_of net) (kinds_of net) (bits_from 0 net.bits))
    (λ n. level_of (role_at roles n)) (λ n. clock_value (role_at roles n)) (flops_from 0 (design_of net).sources)

-- in every state each named bit has the value of its formula
abbrev pub HasBitValues : Netlist → Type 0
HasBitValues net = (state : State) (b : ℕ) (bit : NetBit) → slice_get net.bits b ≡ Some bit → at (values (gates_of net) state) bit.node ≡ formula_value state (formula_at (formulas net.nodes) bit.node)
