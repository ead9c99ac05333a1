use Rattle.std.proofs.Common.{arith}
use Rattle.elab_names.specs.Expressions.{put_in}
use Rattle.elab_names.specs.Meanings.{frames_of}
use Rattle.elab_names.proofs.Lists.{more-next, more-fault, more-end}
use Rattle.elab_names.proofs.PutForms.{answers-Select, answers-Repeat, answers-Binary, answers-Conditional}
use Rattle.elab_names.proofs.expressions.+parts.Goals as goal

pub all_put_in-returns-in-Err : goal.all_put_in-returns-in-Err
all_put_in-returns-in-Err t c = more-fault (put_in (frames_of c.args.scope.now)) c.loop-member.out c.args.members.now c.loop-member.member-index c.member-item.result c.in-Err.fault _ c.loop-member-test.true c.member-item.is c.in-Err.ensures c.loop-member.invariant

pub all_put_in-loop-member-preserved : goal.all_put_in-loop-member-preserved
all_put_in-loop-member-preserved t c = more-next (put_in (frames_of c.args.scope.now)) c.loop-member.out c.push.new.self c.args.members.now c.loop-member.member-index c.member-item.result c.in-Ok.member _ c.loop-member-test.true c.member-item.is c.in-Ok.ensures c.in-Ok-push.ensures.ok c.loop-member.invariant

pub all_put_in-returns : goal.all_put_in-returns
all_put_in-returns t c = more-end (put_in (frames_of c.args.scope.now)) c.loop-member.out c.args.members.now c.loop-member.member-index _ (omega arith) c.loop-member.invariant

pub put_in-returns-in-Select : goal.put_in-returns-in-Select
put_in-returns-in-Select t c =
    answers-Select (frames_of c.args.scope.now) _ _ _ _ _ _ _ _ c.select_of.result c.in-Select.is c.get-in-Select.ensures c.get-in-Select-2.ensures
    (c.select_of.ensures _ _ c.put_in-first.ensures c.put_in-second.ensures)

pub put_in-returns-in-Repeat : goal.put_in-returns-in-Repeat
put_in-returns-in-Repeat t c =
    answers-Repeat (frames_of c.args.scope.now) _ _ _ _ _ _ c.repeat_of.result c.in-Repeat.is c.get-in-Repeat.ensures c.as_slice-in-Repeat.ensures
    (c.repeat_of.ensures _ _ c.put_in-count.ensures c.all_put_in-members.ensures)

pub put_in-returns-in-Binary : goal.put_in-returns-in-Binary
put_in-returns-in-Binary t c =
    answers-Binary (frames_of c.args.scope.now) _ _ _ _ _ _ _ c.binary_of.result c.in-Binary.is c.get-in-Binary.ensures c.get-in-Binary-2.ensures
    (c.binary_of.ensures _ _ c.put_in-left.ensures c.put_in-right.ensures)

pub put_in-returns-in-Conditional : goal.put_in-returns-in-Conditional
put_in-returns-in-Conditional t c =
    answers-Conditional (frames_of c.args.scope.now) _ _ _ _ _ _ _ _ c.conditional_of.result c.in-Conditional.is c.get-in-Conditional.ensures c.get-in-Conditional-2.ensures c.get-in-Conditional-3.ensures
    (c.conditional_of.ensures _ _ _ c.put_in-test.ensures c.put_in-left-in-Conditional.ensures c.put_in-right-in-Conditional.ensures)
