-- What a flat design weighs, and which of its bits are driven and read: one thing after another, each process without its loops.
--     Tally                                 the weight and the touches so far
--     driver_tallied, gate_tallied, process_tallied        after one more
--     tallied d n                           of a whole design, whose instances and bits are n
use Rattle.std.specs.Prelude.{ℕ, ◌+◌, List, ◌++◌, Result, Ok, Err}
use Rattle.std.specs.List.{flat_map}
use Rattle.design_form.specs.declared.parts.Driver.{Driver}
use Rattle.design_form.specs.declared.parts.GateUse.{GateUse}
use Rattle.design_form.specs.declared.parts.Parts.{Parts}
use Rattle.design_form.specs.declared.parts.Process.{Process}
use Rattle.design_form.specs.declared.parts.Side.TheVariants.{Input, Output}
use Rattle.proc_loops.specs.declared.fault.LoopFault.{LoopFault}
use Rattle.proc_loops.specs.declared.fault.LoopFault.TheVariants as loops
use Rattle.proc_loops.specs.declared.turn.Unrolled.{Unrolled}
use Rattle.proc_loops.specs.Unrolled.{unrolled}
use Rattle.elab_names.specs.declared.fault.ElabFault.{ElabFault}
use Rattle.elab_names.specs.declared.fault.ElabFault.TheVariants.{Memory, Const, NotBuilt}
use Rattle.elab_names.specs.Answers.{Or_fault, ◌>>=◌}
use Rattle.elab_scopes.specs.Threads.{threaded}
use Rattle.elab_weight.specs.Limits.{weighed}
use Rattle.elab_weight.specs.Weights.{driver_weight, gate_weight, body_weight}
use Rattle.elab_bits.specs.declared.touch.Touch.{Touch}
use Rattle.elab_bits.specs.Touches.{once}
use Rattle.elab_bits.specs.Parts.{box_bits, driver_drives, driver_reads, gate_drives, gate_reads, input_bits, port_drives}
use Rattle.elab_bits.specs.Processes.{process_drives, process_reads}

-- the weight and the touches so far
pub record Tally : Type 0 where
  pub weight : ℕ
  pub drives : List Touch
  pub reads : List Touch

-- why a process has no body without loops
unfoldable pub loop_fault : LoopFault → ElabFault
loop_fault loops.Memory = Memory
loop_fault (loops.Const fault) = Const fault
loop_fault (loops.NotBuilt place) = NotBuilt place

unfoldable pub lifted : {A : Type 0} → Result A LoopFault → Or_fault A
lifted (Ok a) = Ok a
lifted (Err fault) = Err (loop_fault fault)

unfoldable pub driver_tallied : Parts → Tally → Driver → Or_fault Tally
driver_tallied d t x = do
  w ← weighed x.place (t.weight + driver_weight d x)
  Ok (record { weight = w; drives = t.drives ++ driver_drives d.signals x; reads = t.reads ++ driver_reads d.signals x })

unfoldable pub gate_tallied : Parts → Tally → GateUse → Or_fault Tally
gate_tallied d t g = do
  w ← weighed g.place (t.weight + gate_weight d g)
  Ok (record { weight = w; drives = t.drives ++ gate_drives d.signals g; reads = t.reads ++ gate_reads d.signals g })

unfoldable pub body_tallied : Parts → List ℕ → Tally → Process → Unrolled → Or_fault Tally
body_tallied d inputs t p u = do
  w ← weighed p.place (t.weight + body_weight d u)
  Ok (record { weight = w; drives = t.drives ++ process_drives d.signals inputs p u.body; reads = t.reads ++ process_reads d.signals p u.body })

-- a process, where the top has these input bits
unfoldable pub process_tallied : Parts → List ℕ → Tally → Process → Or_fault Tally
process_tallied d inputs t p = do
  u ← lifted (unrolled p.body)
  body_tallied d inputs t p u

-- what is driven and read from outside
abbrev pub outside : Parts → ℕ → Tally
outside d n = record { weight = n; drives = port_drives d.signals d.ports ++ flat_map (box_bits d.signals Output) d.boxes; reads = flat_map (box_bits d.signals Input) d.boxes }

-- of a whole design
unfoldable pub tallied : Parts → ℕ → Or_fault Tally
tallied d n = do
  a ← threaded (driver_tallied d) (outside d n) d.drivers
  b ← threaded (gate_tallied d) a d.gates
  threaded (process_tallied d (once (input_bits d.signals d.ports))) b d.processes
