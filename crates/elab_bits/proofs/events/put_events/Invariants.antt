-- What is left decides what all add.
use Rattle.std.proofs.Common.{◌≡◌, ◌++◌, drop}
use Rattle.std.specs.List.{flat_map}
use Rattle.elab_bits.specs.Processes.{event_reads}
use Rattle.elab_bits.proofs.events.put_events.Given as goal

abbrev pub invariant-loop-event : goal.invariant-loop-event
invariant-loop-event l = l.touches.items ++ flat_map (event_reads l.design.signals) (drop l.event-index l.events) ≡ l.fn.touches.items ++ flat_map (event_reads l.design.signals) l.events
