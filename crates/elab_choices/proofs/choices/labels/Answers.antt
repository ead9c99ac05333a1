use Rattle.std.proofs.Common.{arith, map}
use Rattle.elab_names.specs.Answers.{gathered}
use Rattle.elab_names.specs.Meanings.{frames_of}
use Rattle.elab_choices.specs.Choices.{label, labels}
use Rattle.elab_choices.proofs.Rows.{row-next, row-fault, row-end, viewed}
use Rattle.elab_choices.proofs.choices.labels.Goals as goal

pub returns-in-Err : goal.returns-in-Err
unfolding labels
returns-in-Err g c = row-fault (λ xs. gathered (map (label (frames_of c.args.scope.now)) xs)) (λ a. a.labels) (map (λ x. x.items) c.loop-arm.out.items) c.args.arms.now c.loop-arm.arm-index c.arm-item.result c.as_slice.result.now c.in-Err.fault _ c.loop-arm-test.true c.arm-item.is c.as_slice.ensures c.in-Err.ensures c.loop-arm.invariant

pub loop-arm-preserved : goal.loop-arm-preserved
loop-arm-preserved g c = row-next (λ xs. gathered (map (label (frames_of c.args.scope.now)) xs)) (λ a. a.labels) (map (λ x. x.items) c.loop-arm.out.items) (map (λ x. x.items) c.push.new.self.items) c.args.arms.now c.loop-arm.arm-index c.arm-item.result c.as_slice.result.now c.in-Ok.ls.items _ c.loop-arm-test.true c.arm-item.is c.as_slice.ensures c.in-Ok.ensures (viewed (λ x. x.items) c.loop-arm.out.items c.push.new.self.items c.in-Ok.ls c.in-Ok-push.ensures.items) c.loop-arm.invariant

pub returns : goal.returns
unfolding labels
returns g c = row-end (λ xs. gathered (map (label (frames_of c.args.scope.now)) xs)) (λ a. a.labels) (map (λ x. x.items) c.loop-arm.out.items) c.args.arms.now c.loop-arm.arm-index _ (omega arith) c.loop-arm.invariant
