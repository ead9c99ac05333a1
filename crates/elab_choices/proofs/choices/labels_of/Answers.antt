use Rattle.std.proofs.Common.{arith}
use Rattle.elab_names.specs.Meanings.{frames_of}
use Rattle.elab_names.proofs.Lists.{more-next, more-fault, more-end}
use Rattle.elab_choices.specs.Choices.{label}
use Rattle.elab_choices.proofs.choices.labels_of.Goals as goal

pub returns-in-Err : goal.returns-in-Err
returns-in-Err c = more-fault (label (frames_of c.args.scope.now)) c.loop-e.out.items c.args.es.now c.loop-e.e-index c.e-item.result c.in-Err.fault _ c.loop-e-test.true c.e-item.is c.in-Err.ensures c.loop-e.invariant

pub loop-e-preserved : goal.loop-e-preserved
loop-e-preserved c = more-next (label (frames_of c.args.scope.now)) c.loop-e.out.items c.push.new.self.items c.args.es.now c.loop-e.e-index c.e-item.result c.in-Ok.l _ c.loop-e-test.true c.e-item.is c.in-Ok.ensures c.in-Ok-push.ensures.items c.loop-e.invariant

pub returns : goal.returns
returns c = more-end (label (frames_of c.args.scope.now)) c.loop-e.out.items c.args.es.now c.loop-e.e-index _ (omega arith) c.loop-e.invariant
