-- What is left decides what all answer.
use Rattle.std.proofs.Common.{◌≡◌, drop}
use Rattle.elab_sound.specs.Sound.{all_checked, event_checked}
use Rattle.elab_sound.proofs.designs.events.Given as goal

abbrev pub invariant-loop-one : goal.invariant-loop-one
invariant-loop-one l = all_checked (event_checked l.design) (drop l.one-index l.events) ≡ all_checked (event_checked l.design) l.events
