-- The reset trees of a net: the pin order and the cones of the pins.
--     NoLoop                         no pins read one another in a cycle
--     Clocks, HasNoClock             the port that clocks a flop, if its clock is one
--     IsReadClock                    a clock that data or a pin reads
--     ArePinCones, AreTrees          the trees
--     TraceAnswers                   each answer of trace
--     ClockFails                     what is wrong with the clocks
use Rattle.std.specs.Prelude.{◌≡◌, ℕ, List, map, Some, None, All, Result, Ok, Err}
use Rattle.net_view.specs.declared.flop_net.FlopOf.{FlopOf}
use Rattle.net_view.specs.FlopNet.{IsFlopAt}
use Rattle.net_view.specs.Cone.{Lists}
use Rattle.net_view.specs.PinOrder.{name_of, IsPinOrder, IsPinLoop}
use Rattle.cons_bind.specs.Names.{Net}
use Rattle.cons_bind.specs.Claims.{IsReadSource}
use Rattle.reset_trees.specs.declared.trees.PinCone.{PinCone}
use Rattle.reset_trees.specs.declared.trees.Trees.{Trees}
use Rattle.reset_trees.specs.declared.fault.TreeFault.{TreeFault}
use Rattle.reset_trees.specs.declared.fault.TreeFault.TheVariants.{Memory, ResetLoop, ClockNotPort, ClockAsData}
use Rattle.reset_trees.specs.Reads.{HasPin, PinReads, IsFirst}

-- the pins of no flops read one another in a cycle
abbrev pub NoLoop : Net → Type 0
NoLoop net = (flops : List ℕ) → IsPinLoop net.gates net.names net.kinds flops → ⊥

-- flop s has a clock that is no input port
abbrev pub HasNoClock : Net → ℕ → Type 0
HasNoClock net s = (flop : FlopOf ℕ) × IsFlopAt net.kinds s flop × (flop.clock ≡ None)

-- port c is the clock of some flop
abbrev pub Clocks : Net → ℕ → Type 0
Clocks net c = (s : ℕ) × (flop : FlopOf ℕ) × IsFlopAt net.kinds s flop × (flop.clock ≡ Some c)

-- port c is the clock of some flop, and in the cone of the data or of the pin of some flop
abbrev pub IsReadClock : Net → ℕ → Type 0
IsReadClock net c = Clocks net c × IsReadSource net c

-- each flop with a pin, by number, with all that its pin reads
pub record ArePinCones (net : Net) (pins : List PinCone) : Type 0 where
  pub flops : Lists (HasPin net) (map (λ (p : PinCone). p.flop) pins)
  pub cones : All (λ (p : PinCone). Lists (PinReads net p.flop) p.sources) pins

-- the reset trees
pub record AreTrees (net : Net) (trees : Trees) : Type 0 where
  pub order : IsPinOrder net.gates net.names net.kinds trees.order
  pub pins : ArePinCones net trees.pins

-- the clock of each flop is an input port
abbrev pub HasClocks : Net → Type 0
HasClocks net = (s : ℕ) → HasNoClock net s → ⊥

-- no clock is read
abbrev pub ReadsNoClock : Net → Type 0
ReadsNoClock net = (c : ℕ) → IsReadClock net c → ⊥

-- each answer of trace: a cycle of pins, else the first flop whose clock is no port, else the first clock that is read,
-- else the trees
abbrev pub TraceAnswers : Net → Result Trees TreeFault → Type 0
TraceAnswers net (Ok trees) = NoLoop net × HasClocks net × ReadsNoClock net × AreTrees net trees
TraceAnswers net (Err Memory) = Unit {0}
TraceAnswers net (Err (ResetLoop loop)) =
    (flops : List ℕ) × IsPinLoop net.gates net.names net.kinds flops × (loop ≡ map (name_of net.names) flops)
TraceAnswers net (Err (ClockNotPort name)) =
    NoLoop net × ((s : ℕ) × IsFirst net.names (HasNoClock net) s × (name ≡ name_of net.names s))
TraceAnswers net (Err (ClockAsData name)) =
    NoLoop net × HasClocks net × ((c : ℕ) × IsFirst net.names (IsReadClock net) c × (name ≡ name_of net.names c))

-- what is wrong with the clocks
abbrev pub ClockFails : Net → TreeFault → Type 0
ClockFails net Memory = Unit {0}
ClockFails net (ResetLoop loop) = ⊥
ClockFails net (ClockNotPort name) = (s : ℕ) × IsFirst net.names (HasNoClock net) s × (name ≡ name_of net.names s)
ClockFails net (ClockAsData name) =
    HasClocks net × ((c : ℕ) × IsFirst net.names (IsReadClock net) c × (name ≡ name_of net.names c))
