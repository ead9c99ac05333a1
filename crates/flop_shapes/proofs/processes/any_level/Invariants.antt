-- What is left of the events decides what all say.
use Rattle.std.proofs.Common.{◌≡◌, not, drop}
use Rattle.std.specs.List.{list_any}
use Rattle.flop_shapes.specs.Shapes.{is_edge}
use Rattle.flop_shapes.proofs.processes.any_level.Given as goal

abbrev pub invariant-loop-event : goal.invariant-loop-event
invariant-loop-event l = list_any (λ e. not (is_edge e.edge)) (drop l.event-index l.events) ≡ list_any (λ e. not (is_edge e.edge)) l.events
