-- Processes, with their bodies unrolled.
--     has_edges c                       whether a process waits for an edge
--     process_drives ss inputs p u      the bits that it drives, each once; an input port of the top is never among them
--     process_reads ss p u              what it reads
-- In a process with edges only `<=` drives: what `=` assigns there are variables of loops, which have no driver and aren't read.
use Rattle.std.specs.Prelude.{ℕ, Bool, true, false, if◌then◌else◌, List, [], ◌++◌, take, Option, Some, None}
use Rattle.std.specs.List.{flat_map, list_any}
use Rattle.vlog_tree.specs.declared.expr.Expr.{Expr}
use Rattle.vlog_tree.specs.declared.ident.Ident.{Ident}
use Rattle.vlog_tree.specs.declared.stmt.Assigns.{Assigns}
use Rattle.vlog_tree.specs.declared.stmt.Assigns.TheVariants.{Blocking, Nonblocking}
use Rattle.vlog_tree.specs.declared.stmt.Edge.{Edge}
use Rattle.vlog_tree.specs.declared.stmt.Edge.TheVariants.{Any, Rising, Falling}
use Rattle.vlog_tree.specs.declared.stmt.Event.{Event}
use Rattle.vlog_tree.specs.declared.stmt.Control.{Control}
use Rattle.vlog_tree.specs.declared.stmt.Control.TheVariants as control
use Rattle.vlog_tree.specs.declared.stmt.Stmt.{Stmt}
use Rattle.design_form.specs.declared.signal.Signal.{Signal}
use Rattle.design_form.specs.declared.parts.Process.{Process}
use Rattle.elab_bits.specs.declared.touch.Touch.{Touch}
use Rattle.elab_bits.specs.Touches.{touched, once, others}
use Rattle.elab_bits.specs.Selects.{all_bits, indexed}
use Rattle.elab_bits.specs.Reads.{reads}
use Rattle.elab_bits.specs.Bodies.{assigned, body_reads}

-- ---- events

unfoldable pub is_edge : Edge → Bool
is_edge Any = false
is_edge Rising = true
is_edge Falling = true

-- whether a process waits for an edge
unfoldable pub has_edges : Control → Bool
has_edges control.Reads = false
has_edges (control.Events es) = list_any (λ e. is_edge e.edge) es

-- name, of which the least significant bit counts, or name [ i ]
unfoldable pub watched : List Signal → Ident → Option Expr → List Touch
watched ss name None = touched name.place (take 1 (all_bits ss name.name))
watched ss name (Some i) = touched name.place (indexed ss name.name i) ++ reads ss i

-- an event; one without an edge is not read
unfoldable pub event_reads : List Signal → Event → List Touch
event_reads ss e = if is_edge e.edge then watched ss e.name e.index else []

unfoldable pub control_reads : List Signal → Control → List Touch
control_reads ss control.Reads = []
control_reads ss (control.Events es) = flat_map (event_reads ss) es

-- ---- bodies

-- which assignments drive
unfoldable pub driving : Control → Option Assigns
driving c = if has_edges c then Some Nonblocking else None

-- the bits of the variables of loops in a process with edges
unfoldable pub counters : List Signal → Control → Stmt → List ℕ
counters ss c body = if has_edges c then once (assigned ss (Some Blocking) body) else []

-- ---- processes

-- what a process drives, where the top has these input bits
unfoldable pub process_drives : List Signal → List ℕ → Process → Stmt → List Touch
process_drives ss inputs p body = others inputs (touched p.place (once (assigned ss (driving p.control) body)))

-- what a process reads
unfoldable pub process_reads : List Signal → Process → Stmt → List Touch
process_reads ss p body = others (counters ss p.control body) (control_reads ss p.control ++ body_reads ss body)
