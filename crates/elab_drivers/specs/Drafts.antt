-- What elaboration draws up: the names and signals of a scope, and what drives them.
--     Draft, draft_of d              all of it, and the same of the program's
--     with_driver, with_process, with_gate      one more of each
--     Changes result new r           a call that changes a draft
use Rattle.std.specs.Prelude.{List, [], ◌∷◌, ◌++◌}
use Rattle.design_form.specs.declared.parts.Driver.{Driver}
use Rattle.design_form.specs.declared.parts.Process.{Process}
use Rattle.design_form.specs.declared.parts.GateUse.{GateUse}
use Rattle.elab_names.specs.Meanings.{Frames}
use Rattle.elab_scopes.specs.Signals.{Drawn}
use Rattle.elab_scopes.specs.Tables.{drawn_of}
use Rattle.elab_drivers.specs.declared.draft.Draft as rust

-- all of it
pub record Draft : Type 0 where
  pub drawn : Drawn
  pub drivers : List Driver
  pub processes : List Process
  pub gates : List GateUse

abbrev pub frames_in : Draft → Frames
frames_in d = d.drawn.frames

-- one more of each
abbrev pub with_driver : Draft → Driver → Draft
with_driver d x = record { drawn = d.drawn; drivers = d.drivers ++ x ∷ []; processes = d.processes; gates = d.gates }

abbrev pub with_process : Draft → Process → Draft
with_process d x = record { drawn = d.drawn; drivers = d.drivers; processes = d.processes ++ x ∷ []; gates = d.gates }

abbrev pub with_gate : Draft → GateUse → Draft
with_gate d x = record { drawn = d.drawn; drivers = d.drivers; processes = d.processes; gates = d.gates ++ x ∷ [] }

-- the program's
abbrev pub draft_of : rust.Draft → Draft
draft_of d = record { drawn = drawn_of d.drawing; drivers = d.drivers.items; processes = d.processes.items; gates = d.gates.items }
