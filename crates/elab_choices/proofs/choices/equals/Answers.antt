use Rattle.std.proofs.Common.{arith}
use Rattle.elab_names.proofs.Lists.{more-next, more-fault, more-end}
use Rattle.elab_choices.specs.Choices.{equal}
use Rattle.elab_choices.proofs.choices.equals.Goals as goal

pub returns-in-Err : goal.returns-in-Err
returns-in-Err c = more-fault (equal c.args.context c.args.bits) c.loop-label.out.items c.args.labels.now c.loop-label.label-index c.label-item.result c.in-Err.fault _ c.loop-label-test.true c.label-item.is c.in-Err.ensures c.loop-label.invariant

pub loop-label-preserved : goal.loop-label-preserved
loop-label-preserved c = more-next (equal c.args.context c.args.bits) c.loop-label.out.items c.push.new.self.items c.args.labels.now c.loop-label.label-index c.label-item.result c.in-Ok.hit _ c.loop-label-test.true c.label-item.is c.in-Ok.ensures c.in-Ok-push.ensures.items c.loop-label.invariant

pub returns : goal.returns
returns c = more-end (equal c.args.context c.args.bits) c.loop-label.out.items c.args.labels.now c.loop-label.label-index _ (omega arith) c.loop-label.invariant
