-- What a process assigns, or what is wrong with it.
--     bodied p                   its body without loops; `LoopLimit` where the turns reach 65,536
--     driven d p body            the bits that it assigns, in ascending order
--     kept d p bits body         what is asked of a process without edges: its paths, and its list
--     run d p                    the bits and the body
use Rattle.std.specs.Prelude.{if◌then◌else◌, ℕ, List, [], map, Result, Ok, Err}
use Rattle.rdc_outside.specs.declared.source.Place.{Place}
use Rattle.vlog_tree.specs.declared.stmt.Stmt.{Stmt}
use Rattle.design_form.specs.declared.parts.Parts.{Parts}
use Rattle.design_form.specs.declared.parts.Process.{Process}
use Rattle.proc_loops.specs.declared.fault.LoopFault.{LoopFault}
use Rattle.proc_loops.specs.declared.turn.Unrolled.{Unrolled}
use Rattle.proc_loops.specs.Unrolled.{unrolled}
use Rattle.elab_bits.specs.Touches.{once}
use Rattle.elab_bits.specs.Processes.{has_edges, process_drives}
use Rattle.vlog_proc.specs.declared.fault.ProcFault.TheVariants.{LoopLimit}
use Rattle.vlog_proc.specs.declared.process.Assigned.{Assigned}
use Rattle.vlog_proc.specs.Faults.{Or_fault, ◌>>=◌, fault_of}
use Rattle.vlog_proc.specs.Paths.{paths_checked}
use Rattle.vlog_proc.specs.Assigns.{rights_checked}
use Rattle.vlog_proc.specs.Lists.{list_checked}

-- ---- loops

-- all turns were made, or one was too many
unfoldable pub finished : Place → Result Unrolled LoopFault → Or_fault Stmt
finished place (Ok u) = if u.is_cut then Err (LoopLimit place) else Ok u.body
finished place (Err fault) = Err (fault_of fault)

-- its body without loops
abbrev pub bodied : Process → Or_fault Stmt
bodied p = finished p.place (unrolled p.body)

-- ---- processes

-- the bits that it assigns; that no other process does is for others to say
abbrev pub driven : Parts → Process → Stmt → List ℕ
driven d p body = once (map (λ t. t.bit) (process_drives d.signals [] p body))

-- what is asked of a process without edges
unfoldable pub kept : Parts → Process → List ℕ → Stmt → Or_fault (Unit {0})
kept d p bits body = if has_edges p.control then Ok tt else (do
  u ← paths_checked d p.place bits body
  list_checked d p bits body)

-- the bits of a process whose body is without loops
unfoldable pub bits_checked : Parts → Process → Stmt → Or_fault (List ℕ)
bits_checked d p body = do
  u ← kept d p (driven d p body) body
  Ok (driven d p body)

-- what a process assigns, or what is wrong with it
unfoldable pub run : Parts → Process → Or_fault Assigned
run d p = do
  u ← rights_checked d p
  body ← bodied p
  bits ← bits_checked d p body
  Ok (record { bits = bits; body = body })
