-- What is left decides what all say.
use Rattle.std.proofs.Common.{◌≡◌, drop}
use Rattle.std.specs.List.{list_any}
use Rattle.elab_bits.specs.Processes.{is_edge}
use Rattle.vlog_proc.proofs.events.any_edge.Given as goal

abbrev pub invariant-loop-event : goal.invariant-loop-event
invariant-loop-event l = list_any (λ e. is_edge e.edge) (drop l.event-index l.events) ≡ list_any (λ e. is_edge e.edge) l.events
