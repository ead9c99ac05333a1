-- What the expressions of a flat design must meet, beside their names: the first fault, in the order of reading.
--     all_checked f xs            each of some, or the first fault
--     driver_checked d x, gate_checked d g, process_checked d p      a driver, a gate and a process
--     event_checked d e           what a process waits for: a bit by a constant index in range
--     sound d                     a design: its drivers, then its gates, then its processes
use Rattle.std.specs.Prelude.{ℕ, ◌-◌, min, List, [], ◌∷◌, ◌++◌, length, take, drop, Option, Some, None, Ok}
use Rattle.std.specs.List.{flat_map}
use Rattle.rdc_outside.specs.declared.source.Place.{Place}
use Rattle.vlog_tree.specs.declared.expr.Expr.{Expr}
use Rattle.vlog_tree.specs.declared.item.GateKind.{GateKind}
use Rattle.vlog_tree.specs.declared.item.GateKind.TheVariants as gate
use Rattle.vlog_tree.specs.declared.stmt.Event.{Event}
use Rattle.vlog_tree.specs.declared.stmt.Control.{Control}
use Rattle.vlog_tree.specs.declared.stmt.Control.TheVariants.{Reads, Events}
use Rattle.design_form.specs.declared.parts.Parts.{Parts}
use Rattle.design_form.specs.declared.parts.Driver.{Driver}
use Rattle.design_form.specs.declared.parts.GateUse.{GateUse}
use Rattle.design_form.specs.declared.parts.Process.{Process}
use Rattle.design_sizes.specs.Sizes.{Sized, sized_alone, sized_target, sized_assignment, sized_statement}
use Rattle.elab_names.specs.Answers.{Or_fault, and_then, ◌>>=◌}
use Rattle.elab_sound.specs.Selects.{checked, fixed_checked}

-- each of some, or the first fault
unfoldable pub all_checked : {A : Type 0} → (A → Or_fault (Unit {0})) → List A → Or_fault (Unit {0})
all_checked f [] = Ok tt
all_checked f (x ∷ xs) = and_then (f x) (λ u. all_checked f xs)

-- parts in their contexts
abbrev pub parts_checked : Parts → List Sized → Or_fault (Unit {0})
parts_checked d ps = all_checked (checked d) ps

-- ---- drivers and gates

abbrev pub driver_checked : Parts → Driver → Or_fault (Unit {0})
driver_checked d x = parts_checked d (sized_assignment d x.target x.value)

-- how many of n terminals are outputs
unfoldable pub outputs : GateKind → ℕ → ℕ
outputs gate.Not n = n - 1
outputs gate.Buf n = n - 1
outputs _ n = min 1 n

-- the parts of terminals, the first k of them outputs
abbrev pub sized_terminals : Parts → ℕ → List Expr → List Sized
sized_terminals d k es = flat_map (sized_target d) (take k es) ++ flat_map (sized_alone d) (drop k es)

abbrev pub gate_checked : Parts → GateUse → Or_fault (Unit {0})
gate_checked d g = parts_checked d (sized_terminals d (outputs g.kind (length g.terminals)) g.terminals)

-- ---- processes

unfoldable pub bit_checked : Parts → Place → List ℕ → Option Expr → Or_fault (Unit {0})
bit_checked d place name None = Ok tt
bit_checked d place name (Some i) = fixed_checked d place name i

-- [posedge|negedge] name [ i ]
abbrev pub event_checked : Parts → Event → Or_fault (Unit {0})
event_checked d e = bit_checked d e.name.place e.name.name e.index

unfoldable pub control_checked : Parts → Control → Or_fault (Unit {0})
control_checked d Reads = Ok tt
control_checked d (Events es) = all_checked (event_checked d) es

unfoldable pub process_checked : Parts → Process → Or_fault (Unit {0})
process_checked d p = do
  u ← control_checked d p.control
  parts_checked d (sized_statement d p.body)

-- ---- designs

unfoldable pub sound : Parts → Or_fault (Unit {0})
sound d = do
  u ← all_checked (driver_checked d) d.drivers
  v ← all_checked (gate_checked d) d.gates
  all_checked (process_checked d) d.processes
