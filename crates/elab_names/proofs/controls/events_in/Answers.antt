use Rattle.std.proofs.Common.{arith}
use Rattle.elab_names.specs.Statements.{event_in}
use Rattle.elab_names.specs.Meanings.{frames_of}
use Rattle.elab_names.proofs.Lists.{more-next, more-fault, more-end}
use Rattle.elab_names.proofs.controls.events_in.Goals as goal

pub returns-in-Err : goal.returns-in-Err
returns-in-Err c = more-fault (event_in (frames_of c.args.scope.now)) c.loop-event.out c.args.events.now c.loop-event.event-index c.event-item.result c.in-Err.fault _ c.loop-event-test.true c.event-item.is c.in-Err.ensures c.loop-event.invariant

pub loop-event-preserved : goal.loop-event-preserved
loop-event-preserved c = more-next (event_in (frames_of c.args.scope.now)) c.loop-event.out c.push.new.self c.args.events.now c.loop-event.event-index c.event-item.result c.in-Ok.event _ c.loop-event-test.true c.event-item.is c.in-Ok.ensures c.in-Ok-push.ensures.ok c.loop-event.invariant

pub returns : goal.returns
returns c = more-end (event_in (frames_of c.args.scope.now)) c.loop-event.out c.args.events.now c.loop-event.event-index _ (omega arith) c.loop-event.invariant
