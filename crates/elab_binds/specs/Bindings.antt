-- The drivers that bind the ports of an instance. An input is driven by the expression that stands there, and an output
-- drives it. A port is the signal of its name behind the instance's.
--     pin_of at p, pins_of_module at ports, pins_of_box ports        ports, in the order of their list
--     binding prefix                    a connection to a port
--     bound prefix place pins c d       the draft with all of them
use Rattle.std.specs.Prelude.{ℕ, Bool, true, false, List, ◌++◌, map, Option, Some, None, Ok}
use Rattle.rdc_outside.specs.declared.source.Place.{Place}
use Rattle.vlog_tree.specs.declared.expr.Expr.{Expr}
use Rattle.vlog_tree.specs.declared.expr.Expr.TheVariants as expr
use Rattle.vlog_tree.specs.declared.port.Port.{Port}
use Rattle.vlog_tree.specs.declared.port.Port.TheVariants as port
use Rattle.vlog_tree.specs.declared.item.Connections.{Connections}
use Rattle.design_form.specs.declared.parts.DriverKind.TheVariants.{Binding}
use Rattle.elab_decls.specs.declared.entry.Entry.{Entry}
use Rattle.elab_names.specs.Answers.{Or_fault, ◌>>=◌}
use Rattle.elab_names.specs.Expressions.{put_in}
use Rattle.elab_scopes.specs.Ranges.{place_of}
use Rattle.elab_scopes.specs.Signals.{Entries, is_input}
use Rattle.elab_drivers.specs.Drafts.{Draft, frames_in, with_driver}
use Rattle.elab_drivers.specs.Targets.{assigned}
use Rattle.elab_binds.specs.declared.boxes.PortShape.{PortShape}
use Rattle.elab_binds.specs.declared.pins.Pin.{Pin}
use Rattle.elab_binds.specs.Connections.{Step, connected}

-- ---- ports

unfoldable pub port_name : Port → List ℕ
port_name (port.Declared way s i) = i.name
port_name (port.Named i) = i.name

-- whether a name is declared as an input
unfoldable pub input_at : Option Entry → Bool
input_at None = false
input_at (Some e) = is_input e.direction

abbrev pub pin_of : Entries → Port → Pin
pin_of at p = record { name = port_name p; input = input_at (at (port_name p)) }

abbrev pub pins_of_module : Entries → List Port → List Pin
pins_of_module at ports = map (pin_of at) ports

abbrev pub pin_of_box : PortShape → Pin
pin_of_box p = record { name = p.name; input = p.input }

abbrev pub pins_of_box : List PortShape → List Pin
pins_of_box ports = map pin_of_box ports

-- ---- drivers

-- a driver that binds, which stands where the expression does
abbrev pub binds : Draft → Place → Expr → Expr → Draft
binds d place target value = with_driver d (record { place = place; kind = Binding; target = target; value = value })

-- a connection to a port; one without an expression binds nothing
unfoldable pub binding : List ℕ → Step Draft
binding prefix d name input None = Ok d
binding prefix d name true (Some e) = do
  v ← put_in (frames_in d) e
  Ok (binds d (place_of e) (expr.Name (place_of e) (prefix ++ name)) v)
binding prefix d name false (Some e) = do
  t ← assigned (frames_in d) e
  Ok (binds d (place_of e) t (expr.Name (place_of e) (prefix ++ name)))

abbrev pub pin_name : Pin → List ℕ
pin_name p = p.name

abbrev pub pin_input : Pin → Bool
pin_input p = p.input

-- the draft with all of them
abbrev pub bound : List ℕ → Place → List Pin → Connections → Draft → Or_fault Draft
bound prefix place pins c d = connected pin_name pin_input (binding prefix) place pins c d
