-- What the other parts of a flat design drive and read.
--     driver_drives, driver_reads       an assignment or a binding
--     gate_drives, gate_reads           a gate
--     box_bits side ss b                the bits of a box's ports of a side
--     input_bits ss ports               the bits of the top's input ports
--     port_drives ss ports              these as driven from outside, at a place before every text
use Rattle.std.specs.Prelude.{ℕ, ◌-◌, Bool, true, false, if◌then◌else◌, List, [], ◌++◌, codes, length, take, drop}
use Rattle.std.specs.List.{flat_map}
use Rattle.rdc_outside.specs.declared.source.Place.{Place}
use Rattle.vlog_tree.specs.declared.item.GateKind.{GateKind}
use Rattle.vlog_tree.specs.declared.item.GateKind.TheVariants as gate
use Rattle.design_form.specs.declared.signal.Signal.{Signal}
use Rattle.design_form.specs.declared.parts.Side.{Side}
use Rattle.design_form.specs.declared.parts.Side.TheVariants.{Input, Output}
use Rattle.design_form.specs.declared.parts.Driver.{Driver}
use Rattle.design_form.specs.declared.parts.GateUse.{GateUse}
use Rattle.design_form.specs.declared.parts.BoxPort.{BoxPort}
use Rattle.design_form.specs.declared.parts.BlackBox.{BlackBox}
use Rattle.design_form.specs.declared.parts.TopPort.{TopPort}
use Rattle.elab_bits.specs.declared.touch.Touch.{Touch}
use Rattle.elab_bits.specs.Touches.{touched}
use Rattle.elab_bits.specs.Selects.{all_bits}
use Rattle.elab_bits.specs.Reads.{reads}
use Rattle.elab_bits.specs.Targets.{targets, target_reads}

-- ---- drivers

abbrev pub driver_drives : List Signal → Driver → List Touch
driver_drives ss d = touched d.place (targets ss d.target)

abbrev pub driver_reads : List Signal → Driver → List Touch
driver_reads ss d = target_reads ss d.target ++ reads ss d.value

-- ---- gates

-- how many of n terminals are outputs
unfoldable pub outputs : GateKind → ℕ → ℕ
outputs gate.Not n = n - 1
outputs gate.Buf n = n - 1
outputs _ n = 1

unfoldable pub gate_drives : List Signal → GateUse → List Touch
gate_drives ss g = touched g.place (flat_map (targets ss) (take (outputs g.kind (length g.terminals)) g.terminals))

unfoldable pub gate_reads : List Signal → GateUse → List Touch
gate_reads ss g =
    flat_map (target_reads ss) (take (outputs g.kind (length g.terminals)) g.terminals)
    ++ flat_map (reads ss) (drop (outputs g.kind (length g.terminals)) g.terminals)

-- ---- boxes

unfoldable pub is_side : Side → Side → Bool
is_side Input Input = true
is_side Input Output = false
is_side Output Input = false
is_side Output Output = true

-- the bits of a port of a box, if it is of that side
unfoldable pub pin_bits : List Signal → Side → BlackBox → BoxPort → List Touch
pin_bits ss side b p = if is_side side p.side then touched b.place (all_bits ss (b.name ++ (codes "." ++ p.name))) else []

-- the bits of a box's ports of a side
unfoldable pub box_bits : List Signal → Side → BlackBox → List Touch
box_bits ss side b = flat_map (pin_bits ss side b) b.ports

-- ---- ports of the top

-- a place before every text
abbrev pub outside : Place
outside = record { file = 0; line = 0; col = 0 }

-- the bits of a port of the top, if it is an input
unfoldable pub port_bits : List Signal → TopPort → List ℕ
port_bits ss p = if is_side Input p.side then all_bits ss p.name else []

-- the bits of the top's input ports
unfoldable pub input_bits : List Signal → List TopPort → List ℕ
input_bits ss ports = flat_map (port_bits ss) ports

abbrev pub port_drives : List Signal → List TopPort → List Touch
port_drives ss ports = touched outside (input_bits ss ports)
