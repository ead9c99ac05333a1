use Rattle.std.proofs.Common.{subst, arith}
use Rattle.vlog_tree.specs.declared.stmt.Arm.{Arm}
use Rattle.vlog_tree.specs.declared.stmt.Stmt.{Stmt}
use Rattle.elab_names.specs.Answers.{Answers, Or_fault}
use Rattle.elab_names.specs.Statements.{arm_with, statement_in}
use Rattle.elab_names.specs.Meanings.{frames_of}
use Rattle.elab_names.proofs.Lists.{more-next, more-fault, more-end}
use Rattle.elab_names.proofs.StatementForms.{answers-If, answers-Case, answers-For, answers-arm}
use Rattle.elab_names.proofs.statements.+statements.Goals as goal

pub statements_in-returns-in-Err : goal.statements_in-returns-in-Err
statements_in-returns-in-Err t c = more-fault (statement_in (frames_of c.args.scope.now)) c.loop-s.out c.args.inner.now c.loop-s.s-index c.s-item.result c.in-Err.fault _ c.loop-s-test.true c.s-item.is c.in-Err.ensures c.loop-s.invariant

pub statements_in-loop-s-preserved : goal.statements_in-loop-s-preserved
statements_in-loop-s-preserved t c = more-next (statement_in (frames_of c.args.scope.now)) c.loop-s.out c.push.new.self c.args.inner.now c.loop-s.s-index c.s-item.result c.in-Ok.s _ c.loop-s-test.true c.s-item.is c.in-Ok.ensures c.in-Ok-push.ensures.ok c.loop-s.invariant

pub statements_in-returns : goal.statements_in-returns
statements_in-returns t c = more-end (statement_in (frames_of c.args.scope.now)) c.loop-s.out c.args.inner.now c.loop-s.s-index _ (omega arith) c.loop-s.invariant

pub arms_in-returns-in-Err : goal.arms_in-returns-in-Err
arms_in-returns-in-Err t c =
    let answer = answers-arm (frames_of c.args.scope.now) c.item-item.result _ _ c.arm_of.result c.as_slice.ensures c.get.ensures (c.arm_of.ensures _ _ c.all_put_in-labels.ensures c.statement_in-body.ensures) in
    more-fault (arm_with (frames_of c.args.scope.now)) c.loop-item.out c.args.items.now c.loop-item.item-index c.item-item.result c.in-Err.fault _ c.loop-item-test.true c.item-item.is
    (subst (λ (r : Or_fault (Arm Stmt)). Answers (λ z. z) r (arm_with (frames_of c.args.scope.now) c.item-item.result)) c.in-Err.is answer) c.loop-item.invariant

pub arms_in-loop-item-preserved : goal.arms_in-loop-item-preserved
arms_in-loop-item-preserved t c =
    let answer = answers-arm (frames_of c.args.scope.now) c.item-item.result _ _ c.arm_of.result c.as_slice.ensures c.get.ensures (c.arm_of.ensures _ _ c.all_put_in-labels.ensures c.statement_in-body.ensures) in
    more-next (arm_with (frames_of c.args.scope.now)) c.loop-item.out c.push.new.self c.args.items.now c.loop-item.item-index c.item-item.result c.in-Ok.item _ c.loop-item-test.true c.item-item.is
    (subst (λ (r : Or_fault (Arm Stmt)). Answers (λ z. z) r (arm_with (frames_of c.args.scope.now) c.item-item.result)) c.in-Ok.is answer) c.in-Ok-push.ensures.ok c.loop-item.invariant

pub arms_in-returns : goal.arms_in-returns
arms_in-returns t c = more-end (arm_with (frames_of c.args.scope.now)) c.loop-item.out c.args.items.now c.loop-item.item-index _ (omega arith) c.loop-item.invariant

pub statement_in-returns-in-If : goal.statement_in-returns-in-If
statement_in-returns-in-If t c =
    answers-If (frames_of c.args.scope.now) _ _ _ _ _ _ c.branch_of.result c.in-If.is c.get.ensures
    (c.branch_of.ensures _ _ _ c.put_in-test.ensures c.statement_in-yes.ensures c.else_in-no.ensures)

pub statement_in-returns-in-Case : goal.statement_in-returns-in-Case
statement_in-returns-in-Case t c =
    answers-Case (frames_of c.args.scope.now) _ _ _ _ _ _ c.case_of.result c.in-Case.is c.as_slice-in-Case.ensures
    (c.case_of.ensures _ _ c.put_in-selector.ensures c.arms_in-arms.ensures)

pub statement_in-returns-in-For : goal.statement_in-returns-in-For
statement_in-returns-in-For t c =
    answers-For (frames_of c.args.scope.now) _ _ _ _ _ c.for_of.result c.in-For.is c.get-in-For.ensures
    (c.for_of.ensures _ _ c.loop_in-header.ensures c.statement_in-body.ensures)
