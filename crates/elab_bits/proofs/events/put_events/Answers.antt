use Rattle.std.proofs.Common.{arith}
use Rattle.elab_bits.specs.Processes.{event_reads}
use Rattle.elab_bits.proofs.Rows.{row_more, row_end}
use Rattle.elab_bits.proofs.events.put_events.Goals as goal

pub loop-event-preserved : goal.loop-event-preserved
loop-event-preserved c = row_more (event_reads c.args.design.now.signals) c.args.events.now c.loop-event.event-index c.event-item.result _ _ _ c.loop-event-test.true c.event-item.is c.in_ok-put_event.ensures c.loop-event.invariant

pub returns : goal.returns
returns c = row_end (event_reads c.args.design.now.signals) c.args.events.now c.loop-event.event-index _ _ (omega arith) c.loop-event.invariant
