-- What a list of events without edges covers. `*` lacks nothing.
--     covered ss e               the bits of an event: those of a name, or the one at an index
--     listed ss bits cover t     a bit that is read is assigned by the process or covered, or `IncompleteList` at the read
--     list_checked d p bits body       the first of a process
use Rattle.std.specs.Prelude.{if◌then◌else◌, ℕ, ◌||◌, List, Option, Some, None, Ok, Err}
use Rattle.std.specs.List.{flat_map}
use Rattle.vlog_tree.specs.declared.expr.Expr.{Expr}
use Rattle.vlog_tree.specs.declared.stmt.Event.{Event}
use Rattle.vlog_tree.specs.declared.stmt.Control.{Control}
use Rattle.vlog_tree.specs.declared.stmt.Control.TheVariants.{Reads, Events}
use Rattle.vlog_tree.specs.declared.stmt.Stmt.{Stmt}
use Rattle.design_form.specs.declared.signal.Signal.{Signal}
use Rattle.design_form.specs.declared.parts.Parts.{Parts}
use Rattle.design_form.specs.declared.parts.Process.{Process}
use Rattle.elab_bits.specs.declared.touch.Touch.{Touch}
use Rattle.elab_bits.specs.Touches.{is_among, once}
use Rattle.elab_bits.specs.Selects.{all_bits, indexed}
use Rattle.elab_bits.specs.Processes.{process_reads}
use Rattle.vlog_proc.specs.declared.fault.ProcFault.TheVariants.{IncompleteList}
use Rattle.vlog_proc.specs.Faults.{Or_fault, all_checked}
use Rattle.vlog_proc.specs.Names.{owner}

unfoldable pub covered_by : List Signal → List ℕ → Option Expr → List ℕ
covered_by ss name None = all_bits ss name
covered_by ss name (Some i) = indexed ss name i

-- the bits of an event
abbrev pub covered : List Signal → Event → List ℕ
covered ss e = covered_by ss e.name.name e.index

abbrev pub all_covered : List Signal → List Event → List ℕ
all_covered ss es = once (flat_map (covered ss) es)

-- a bit that is read
unfoldable pub listed : List Signal → List ℕ → List ℕ → Touch → Or_fault (Unit {0})
listed ss bits cover t = if is_among bits t.bit || is_among cover t.bit then Ok tt else Err (IncompleteList (owner ss t.bit) t.place)

unfoldable pub listed_by : Parts → Process → List ℕ → Stmt → Control → Or_fault (Unit {0})
listed_by d p bits body Reads = Ok tt
listed_by d p bits body (Events es) = all_checked (listed d.signals bits (all_covered d.signals es)) (process_reads d.signals p body)

-- the first of a process
abbrev pub list_checked : Parts → Process → List ℕ → Stmt → Or_fault (Unit {0})
list_checked d p bits body = listed_by d p bits body p.control
