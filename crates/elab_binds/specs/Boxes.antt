-- The signals of a box, one a port: wires without a sign, under the port's name behind the instance's.
use Rattle.std.specs.Prelude.{ℕ, false, List, ◌++◌, map, Some}
use Rattle.rdc_outside.specs.declared.source.Place.{Place}
use Rattle.design_form.specs.declared.signal.SignalKind.TheVariants.{Wire}
use Rattle.elab_scopes.specs.declared.placed.Placed.{Placed}
use Rattle.elab_scopes.specs.Signals.{Drawn}
use Rattle.elab_binds.specs.declared.boxes.PortShape.{PortShape}

-- the signal of a port
abbrev pub box_signal : List ℕ → Place → PortShape → Placed
box_signal prefix place p = record { signal = record { name = prefix ++ p.name; kind = Wire; signed = false; range = Some (record { msb = p.msb; lsb = p.lsb }) }; place = place }

-- no name in the scope means one of them
abbrev pub with_box_signals : List ℕ → Place → List PortShape → Drawn → Drawn
with_box_signals prefix place ports d = record { frames = d.frames; signals = d.signals ++ map (box_signal prefix place) ports }
