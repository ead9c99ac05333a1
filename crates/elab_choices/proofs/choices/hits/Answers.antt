use Rattle.std.proofs.Common.{arith}
use Rattle.elab_choices.specs.Choices.{any_equal}
use Rattle.elab_choices.proofs.Rows.{row-next, row-fault, row-end}
use Rattle.elab_choices.proofs.choices.hits.Goals as goal

pub returns-in-Err : goal.returns-in-Err
returns-in-Err c = row-fault (any_equal c.args.context c.args.bits) (λ x. x.items) c.loop-labels.out.items c.args.arms.now c.loop-labels.labels-index c.labels-item.result c.deref.result.now c.in-Err.fault _ c.loop-labels-test.true c.labels-item.is c.deref.ensures.value c.in-Err.ensures c.loop-labels.invariant

pub loop-labels-preserved : goal.loop-labels-preserved
loop-labels-preserved c = row-next (any_equal c.args.context c.args.bits) (λ x. x.items) c.loop-labels.out.items c.push.new.self.items c.args.arms.now c.loop-labels.labels-index c.labels-item.result c.deref.result.now c.in-Ok.hit _ c.loop-labels-test.true c.labels-item.is c.deref.ensures.value c.in-Ok.ensures c.in-Ok-push.ensures.items c.loop-labels.invariant

pub returns : goal.returns
returns c = row-end (any_equal c.args.context c.args.bits) (λ x. x.items) c.loop-labels.out.items c.args.arms.now c.loop-labels.labels-index _ (omega arith) c.loop-labels.invariant
