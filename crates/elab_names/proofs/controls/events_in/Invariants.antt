-- What is left decides what all give.
use Rattle.std.proofs.Common.{◌≡◌, map, drop}
use Rattle.elab_names.specs.Answers.{gathered}
use Rattle.elab_names.specs.Statements.{event_in}
use Rattle.elab_names.specs.Meanings.{frames_of}
use Rattle.elab_names.proofs.Lists.{more}
use Rattle.elab_names.proofs.controls.events_in.Given as goal

abbrev pub invariant-loop-event : goal.invariant-loop-event
invariant-loop-event l =
    more l.out (gathered (map (event_in (frames_of l.scope)) (drop l.event-index l.events))) ≡ gathered (map (event_in (frames_of l.scope)) l.events)
