-- Instances: of a module the parameters that are given, the drivers of its ports, and what is left to be elaborated; of a box
-- its signals and the drivers of its ports.
--     Lib                              the modules and boxes that a name may mean
--     inner prefix i                   what goes before the names in an instance
--     instanced lib prefix called passed p i      one instance
use Rattle.std.specs.Prelude.{ℕ, Bool, true, false, List, [], ◌∷◌, ◌++◌, map, Option, Some, None, Ok, codes, slice_get}
use Rattle.vlog_tree.specs.declared.ident.Ident.{Ident}
use Rattle.vlog_tree.specs.declared.item.Connections.{Connections}
use Rattle.vlog_tree.specs.declared.item.Connections.TheVariants as connections
use Rattle.vlog_tree.specs.declared.item.Instance.{Instance}
use Rattle.vlog_tree.specs.declared.module.Module.{Module}
use Rattle.design_form.specs.declared.parts.BlackBox.{BlackBox}
use Rattle.design_form.specs.declared.parts.BoxPort.{BoxPort}
use Rattle.design_form.specs.declared.parts.Side.TheVariants as side
use Rattle.design_form.specs.declared.parts.Side.{Side}
use Rattle.elab_decls.specs.Tables.{declared_in}
use Rattle.elab_names.specs.Answers.{Or_fault, ◌>>=◌}
use Rattle.elab_scopes.specs.Openings.{taken}
use Rattle.elab_binds.specs.declared.boxes.BoxPorts.{BoxPorts}
use Rattle.elab_binds.specs.declared.boxes.PortShape.{PortShape}
use Rattle.elab_binds.specs.declared.index.Found.{Found}
use Rattle.elab_binds.specs.declared.index.Found.TheVariants as found
use Rattle.elab_binds.specs.Bindings.{bound, pins_of_module, pins_of_box}
use Rattle.elab_binds.specs.Books.{library, found_in}
use Rattle.elab_binds.specs.Boxes.{with_box_signals}
use Rattle.elab_binds.specs.ParameterNames.{parameter_names}
use Rattle.elab_binds.specs.Passed.{given}
use Rattle.elab_items.specs.Plans.{Pending, Plan, frames_in, with_draft, with_drawn}

-- the modules and boxes that a name may mean
pub record Lib : Type 0 where
  pub modules : List Module
  pub boxes : List BoxPorts

-- what goes before the names in an instance
abbrev pub inner : List ℕ → Ident → List ℕ
inner prefix i = prefix ++ (i.name ++ codes ".")

-- one more instance to be elaborated
abbrev pub with_pending : Plan → Pending → Plan
with_pending p x = record { draft = p.draft; boxes = p.boxes; pending = p.pending ++ x ∷ []; around = p.around; turns = p.turns }

abbrev pub with_box : Plan → BlackBox → Plan
with_box p b = record { draft = p.draft; boxes = p.boxes ++ b ∷ []; pending = p.pending; around = p.around; turns = p.turns }

-- an instance of the module m, which is the one at k
unfoldable pub of_module : List ℕ → Ident → Connections → Plan → Instance → ℕ → Module → Or_fault Plan
of_module prefix called passed p i k m = do
  g ← given (frames_in p) called.place (parameter_names m.parameters m.items) passed
  t ← taken (declared_in m.parameters m.ports m.items)
  d ← bound (inner prefix i.name) i.name.place (pins_of_module t.at m.ports) i.connections p.draft
  Ok (with_pending (with_draft p d) (record { position = k; prefix = inner prefix i.name; given = g; place = i.name.place }))

-- whether parameters are passed
unfoldable pub passes : Connections → Bool
passes (connections.Ordered []) = false
passes (connections.Named []) = false
passes _ = true

unfoldable pub side_of : Bool → Side
side_of true = side.Input
side_of false = side.Output

abbrev pub box_port : PortShape → BoxPort
box_port s = record { name = s.name; side = side_of s.input; range = Some (record { msb = s.msb; lsb = s.lsb }) }

-- the box in the flat design
abbrev pub black_box : List ℕ → Ident → Connections → Ident → BoxPorts → BlackBox
black_box prefix called passed i b = record { place = i.place; name = prefix ++ i.name; «module» = called.name; has_parameters = passes passed; ports = map box_port b.ports }

-- an instance of the box b: its ports are signals, and parameters are not looked at
unfoldable pub of_box : List ℕ → Ident → Connections → Plan → Instance → BoxPorts → Or_fault Plan
of_box prefix called passed p i b = do
  d ← bound (inner prefix i.name) i.name.place (pins_of_box b.ports) i.connections (with_drawn p (with_box_signals (inner prefix i.name) i.name.place b.ports p.draft.drawn)).draft
  Ok (with_box (with_draft p d) (black_box prefix called passed i.name b))

unfoldable pub module_at : List ℕ → Ident → Connections → Plan → Instance → ℕ → Option Module → Or_fault Plan
module_at prefix called passed p i k None = Ok p
module_at prefix called passed p i k (Some m) = of_module prefix called passed p i k m

unfoldable pub box_at : List ℕ → Ident → Connections → Plan → Instance → Option BoxPorts → Or_fault Plan
box_at prefix called passed p i None = Ok p
box_at prefix called passed p i (Some b) = of_box prefix called passed p i b

unfoldable pub instance_of : Lib → List ℕ → Ident → Connections → Plan → Instance → Found → Or_fault Plan
instance_of lib prefix called passed p i (found.Module k) = module_at prefix called passed p i k (slice_get lib.modules k)
instance_of lib prefix called passed p i (found.Box k) = box_at prefix called passed p i (slice_get lib.boxes k)

-- one instance
unfoldable pub instanced : Lib → List ℕ → Ident → Connections → Plan → Instance → Or_fault Plan
instanced lib prefix called passed p i = do
  f ← found_in (library lib.modules lib.boxes) called.name called.place
  instance_of lib prefix called passed p i f
