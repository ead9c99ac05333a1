-- The top of a design, and the whole hierarchy below it.
--     Top, top_of lib name         the top, with its place in the list of modules
--     grown_from lib t             the flat design and its size
--     top_ports t                  the ports of the top, in the order of their list
use Rattle.std.specs.Prelude.{ℕ, Bool, true, false, if◌then◌else◌, List, [], ◌∷◌, map, Option, Some, None, Ok, Err, slice_get}
use Rattle.std.specs.Str.{bytes_eq}
use Rattle.rdc_outside.specs.declared.source.Place.{Place}
use Rattle.vlog_tree.specs.declared.module.Module.{Module}
use Rattle.elab_names.specs.declared.fault.ElabFault.TheVariants.{NoModule, TwoModules}
use Rattle.elab_names.specs.Answers.{Or_fault, ◌>>=◌}
use Rattle.elab_names.specs.Meanings.{no_names}
use Rattle.design_form.specs.declared.parts.Side.{Side}
use Rattle.design_form.specs.declared.parts.Side.TheVariants.{Input, Output}
use Rattle.design_form.specs.declared.parts.TopPort.{TopPort}
use Rattle.elab_decls.specs.Tables.{declared_in}
use Rattle.elab_scopes.specs.Openings.{taken}
use Rattle.elab_scopes.specs.Parameters.{none_given}
use Rattle.elab_binds.specs.declared.pins.Pin.{Pin}
use Rattle.elab_binds.specs.Bindings.{pins_of_module}
use Rattle.elab_binds.specs.declared.index.Listed.{Listed}
use Rattle.elab_binds.specs.declared.index.Listed.TheVariants.{Once, Twice}
use Rattle.elab_binds.specs.declared.index.Found.TheVariants as found
use Rattle.elab_binds.specs.Books.{library}
use Rattle.elab_items.specs.Plans.{Pending}
use Rattle.elab_items.specs.Instances.{Lib}
use Rattle.elab_tree.specs.Hierarchy.{State, grown}

-- the place of the second module of that name, or else of the only one, behind one that was met
unfoldable pub second_place : List Module → List ℕ → Option Place → Option Place
second_place [] name first = first
second_place (m ∷ ms) name None = if bytes_eq m.name.name name then second_place ms name (Some m.name.place) else second_place ms name None
second_place (m ∷ ms) name (Some first) = if bytes_eq m.name.name name then Some m.name.place else second_place ms name (Some first)

unfoldable pub twice_at : List ℕ → Option Place → Or_fault ℕ
twice_at name None = Err (NoModule name None)
twice_at name (Some place) = Err (TwoModules name place)

-- where the top stands, which is a module and no box
unfoldable pub top_as : List Module → List ℕ → Option Listed → Or_fault ℕ
top_as ms name None = Err (NoModule name None)
top_as ms name (Some (Once (found.Box k))) = Err (NoModule name None)
top_as ms name (Some (Once (found.Module k))) = Ok k
top_as ms name (Some Twice) = twice_at name (second_place ms name None)

abbrev pub position_in : Lib → List ℕ → Or_fault ℕ
position_in lib name = top_as lib.modules name (library lib.modules lib.boxes name)

-- the top, with its place in the list of modules
pub record Top : Type 0 where
  pub position : ℕ
  pub body : Module

unfoldable pub top_at : List ℕ → ℕ → Option Module → Or_fault Top
top_at name k None = Err (NoModule name None)
top_at name k (Some m) = Ok (record { position = k; body = m })

unfoldable pub top_of : Lib → List ℕ → Or_fault Top
top_of lib name = do
  k ← position_in lib name
  top_at name k (slice_get lib.modules k)

-- nothing is elaborated
abbrev pub nothing : State
nothing = record { plan = record { draft = record { drawn = record { frames = no_names ∷ []; signals = [] }; drivers = []; processes = []; gates = [] }; boxes = []; pending = []; around = []; turns = 0 }; size = 0 }

-- the top as an instance: its names have no prefix, and nothing is given to it
abbrev pub topmost : ℕ → Place → Pending
topmost k place = record { position = k; prefix = []; given = none_given; place = place }

-- instances nest 255 deep at most, the top not counted
unfoldable pub most_levels : ℕ
most_levels = 256

-- the flat design and its size
abbrev pub grown_from : Lib → Top → Or_fault State
grown_from lib t = grown most_levels lib [] (topmost t.position t.body.name.place) nothing

-- ---- ports

unfoldable pub side_of : Bool → Side
side_of true = Input
side_of false = Output

abbrev pub port_of : Pin → TopPort
port_of p = record { name = p.name; side = side_of p.input }

-- the ports of the top, in the order of their list
unfoldable pub top_ports : Module → Or_fault (List TopPort)
top_ports m = do
  t ← taken (declared_in m.parameters m.ports m.items)
  Ok (map port_of (pins_of_module t.at m.ports))
