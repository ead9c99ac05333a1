-- What elaboration has found of a module: its own part of the flat design, and the instances that are still to be elaborated.
--     Pending                        an instance that is still to be elaborated
--     Plan                           all of it
--     on_draft f p                   a step that changes the draft alone
--     with_draft, with_drawn, with_frames, with_around, with_turn      the same with another part
use Rattle.std.specs.Prelude.{ℕ, ◌+◌, List, Ok}
use Rattle.rdc_outside.specs.declared.source.Place.{Place}
use Rattle.design_form.specs.declared.parts.BlackBox.{BlackBox}
use Rattle.elab_names.specs.Answers.{Or_fault, ◌>>=◌}
use Rattle.elab_names.specs.Meanings.{Frames}
use Rattle.elab_scopes.specs.Parameters.{Given}
use Rattle.elab_scopes.specs.Signals.{Drawn, Entries}
use Rattle.elab_drivers.specs.Drafts.{Draft}

-- an instance of the module at a place in the list of modules
pub record Pending : Type 0 where
  pub position : ℕ
  pub prefix : List ℕ
  pub given : Given
  pub place : Place

-- all of it; `around` is what the scopes declare, the innermost first
pub record Plan : Type 0 where
  pub draft : Draft
  pub boxes : List BlackBox
  pub pending : List Pending
  pub around : List Entries
  pub turns : ℕ

abbrev pub frames_in : Plan → Frames
frames_in p = p.draft.drawn.frames

-- the same with another draft
abbrev pub with_draft : Plan → Draft → Plan
with_draft p d = record { draft = d; boxes = p.boxes; pending = p.pending; around = p.around; turns = p.turns }

-- with other names
abbrev pub with_drawn : Plan → Drawn → Plan
with_drawn p d = with_draft p (record { drawn = d; drivers = p.draft.drivers; processes = p.draft.processes; gates = p.draft.gates })

abbrev pub with_frames : Plan → Frames → Plan
with_frames p f = with_drawn p (record { frames = f; signals = p.draft.drawn.signals })

-- with other scopes around
abbrev pub with_around : Plan → List Entries → Plan
with_around p around = record { draft = p.draft; boxes = p.boxes; pending = p.pending; around = around; turns = p.turns }

-- with one more turn
abbrev pub with_turn : Plan → Plan
with_turn p = record { draft = p.draft; boxes = p.boxes; pending = p.pending; around = p.around; turns = p.turns + 1 }

-- a step that changes the draft alone
unfoldable pub on_draft : (Draft → Or_fault Draft) → Plan → Or_fault Plan
on_draft f p = do
  d ← f p.draft
  Ok (with_draft p d)
