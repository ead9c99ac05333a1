-- The accepted forms of a process, by its events and its body (IEEE 1364.1-2002).
--     Form                       what a process is
--     chosen s                   the test and the two sides of `if (test) .. else ..`, alone or in one `begin .. end`
--     is_tested d e t            whether a test asks for the level that an event's edge leads to
--     form_of d p                what a process is, or why it is of no form
use Rattle.std.specs.Prelude.{if◌then◌else◌, Bool, true, false, not, ◌&&◌, List, [], ◌∷◌, Option, Some, None, Result, Ok, Err}
use Rattle.std.specs.List.{list_any}
use Rattle.rdc_outside.specs.declared.source.Place.{Place}
use Rattle.vlog_tree.specs.declared.expr.Expr.{Expr}
use Rattle.vlog_tree.specs.declared.stmt.Edge.{Edge}
use Rattle.vlog_tree.specs.declared.stmt.Edge.TheVariants as edge
use Rattle.vlog_tree.specs.declared.stmt.Event.{Event}
use Rattle.vlog_tree.specs.declared.stmt.Control.{Control}
use Rattle.vlog_tree.specs.declared.stmt.Control.TheVariants as control
use Rattle.vlog_tree.specs.declared.stmt.Stmt.{Stmt, out-Stmt}
use Rattle.vlog_tree.specs.declared.stmt.Stmt.TheOpen.{Stmt-F}
use Rattle.design_form.specs.declared.parts.Parts.{Parts}
use Rattle.design_form.specs.declared.parts.Process.{Process}
use Rattle.flop_shapes.specs.declared.fault.ShapeFault.{ShapeFault}
use Rattle.flop_shapes.specs.declared.fault.ShapeFault.TheVariants.{ClockShape, ResetShape}
use Rattle.flop_shapes.specs.Tests.{Bit, Test, event_bit, same_bit, same_sign, is_one_bit, test_of}

-- what a process is: its clock, its reset with the level at which that acts, and what is done then and at the clock
pub data Form : Type 0 where
  Combinational : Form
  Clocked : Event → Stmt → Form
  Reset : Event → Event → Bool → Stmt → Stmt → Form

-- ---- bodies

-- a test and its two sides
abbrev pub Choice : Type 0
Choice = Expr × Stmt × Stmt

unfoldable pub choice_in : Stmt-F Stmt → Option Choice
choice_in (Stmt-F.If place test then_part (Some else_part)) = Some (test, then_part, else_part)
choice_in s = None

-- if (test) yes else no
unfoldable pub choice_of : Stmt → Option Choice
choice_of s = choice_in (out-Stmt s)

unfoldable pub only_choice : List Stmt → Option Choice
only_choice (s ∷ []) = choice_of s
only_choice ss = None

unfoldable pub chosen_in : Stmt-F Stmt → Option Choice
chosen_in (Stmt-F.If place test then_part (Some else_part)) = Some (test, then_part, else_part)
chosen_in (Stmt-F.Block place label ss) = only_choice ss
chosen_in s = None

-- the same, alone or in one `begin .. end`
unfoldable pub chosen : Stmt → Option Choice
chosen s = chosen_in (out-Stmt s)

-- ---- events

unfoldable pub is_edge : Edge → Bool
is_edge edge.Any = false
is_edge e = true

unfoldable pub is_rising : Edge → Bool
is_rising edge.Rising = true
is_rising e = false

unfoldable pub is_tested_as : Parts → Bool → Option Bit → Test → Bool
is_tested_as d rising None t = false
is_tested_as d rising (Some b) t = (same_bit t.0 b && same_sign t.1 rising) && is_one_bit d b

-- whether a test asks for the level that an event's edge leads to, of one bit
unfoldable pub is_tested : Parts → Event → Test → Bool
is_tested d e t = is_tested_as d (is_rising e.edge) (event_bit e) t

unfoldable pub are_one_in : Option Bit → Option Bit → Bool
are_one_in (Some a) (Some b) = same_bit a b
are_one_in a b = false

-- whether two events are of one name
unfoldable pub are_one : Event → Event → Bool
are_one a b = are_one_in (event_bit a) (event_bit b)

-- ---- processes

-- two events and a test: the tested one is the reset, the other one the clock
unfoldable pub tested_form : Parts → Event → Event → Test → Stmt → Stmt → Option Form
tested_form d a b t then_part else_part =
    if are_one a b then None
    else (if is_tested d a t then Some (Reset b a (is_rising a.edge) then_part else_part)
    else (if is_tested d b t then Some (Reset a b (is_rising b.edge) then_part else_part)
    else None))

unfoldable pub with_test : Parts → Event → Event → Option Test → Stmt → Stmt → Option Form
with_test d a b None then_part else_part = None
with_test d a b (Some t) then_part else_part = tested_form d a b t then_part else_part

unfoldable pub with_choice : Parts → Event → Event → Option Choice → Option Form
with_choice d a b None = None
with_choice d a b (Some c) = with_test d a b (test_of c.0) c.1 c.2

-- two events with edges
unfoldable pub two_edges : Parts → Event → Event → Stmt → Option Form
two_edges d a b body = with_choice d a b (chosen body)

-- a form, or ResetShape
unfoldable pub or_fault : Place → Option Form → Result Form ShapeFault
or_fault place None = Err (ResetShape place)
or_fault place (Some f) = Ok f

-- events that all have edges: one is the clock, two are clock and reset
unfoldable pub edges : Parts → Process → List Event → Result Form ShapeFault
edges d p (e ∷ []) = Ok (Clocked e p.body)
edges d p (a ∷ b ∷ []) = or_fault p.place (two_edges d a b p.body)
edges d p es = Err (ResetShape p.place)

-- events, by whether one has an edge, and whether one has none
unfoldable pub events_form : Parts → Process → List Event → Bool → Bool → Result Form ShapeFault
events_form d p es false levels = Ok Combinational
events_form d p es true true = Err (ClockShape p.place)
events_form d p es true false = edges d p es

unfoldable pub controlled : Parts → Process → Control → Result Form ShapeFault
controlled d p control.Reads = Ok Combinational
controlled d p (control.Events es) = events_form d p es (list_any (λ e. is_edge e.edge) es) (list_any (λ e. not (is_edge e.edge)) es)

-- what a process is, or why it is of no form
unfoldable pub form_of : Parts → Process → Result Form ShapeFault
form_of d p = controlled d p p.control
