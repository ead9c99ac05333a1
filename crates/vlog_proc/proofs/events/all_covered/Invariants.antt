-- What is left decides what all say.
use Rattle.std.proofs.Common.{◌≡◌, ◌++◌, drop}
use Rattle.std.specs.List.{flat_map}
use Rattle.vlog_proc.specs.Lists.{covered}
use Rattle.vlog_proc.proofs.events.all_covered.Given as goal

abbrev pub invariant-loop-event : goal.invariant-loop-event
invariant-loop-event l = l.bits.items ++ flat_map (covered l.design.signals) (drop l.event-index l.events) ≡ flat_map (covered l.design.signals) l.events
