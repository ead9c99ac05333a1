use Rattle.std.proofs.Common.{◌+◌, ◌-◌, drop, Ok, refl, sym, ap, ◌∙◌, arith}
use Rattle.vlog_const.specs.Names.{values_of}
use Rattle.proc_loops.specs.Headers.{running}
use Rattle.proc_loops.specs.Turns.{turns}
use Rattle.proc_loops.specs.Unrolled.{arm_in, each, unroll}
use Rattle.proc_loops.proofs.UnrollForms.{each-fails, each-goes, same_answer, if-form, case-form, unless_memory, arm-form}
use Rattle.proc_loops.proofs.TurnForms.{turns-fault, turns-ended, turns-full, turns-cut, turns-made, turns-none}
use Rattle.proc_loops.proofs.unrolling.+unrolling.Goals as goal

pub each_arm-returns-in-Err : goal.each_arm-returns-in-Err
each_arm-returns-in-Err t c =
    let form = arm-form c.arm-item.result c.as_slice.result.now c.get.result.now (values_of c.args.scope.now.env) c.loop-arm.p c.as_slice.ensures c.get.ensures in
    unless_memory (λ e. sym c.loop-arm.invariant ∙ each-fails (arm_in unroll) c.loop-arm.done c.args.arms.now c.loop-arm.arm-index c.arm-item.result (values_of c.args.scope.now.env) c.loop-arm.p c.in-Err.fault (omega arith) c.arm-item.is c.if-p.false (form ∙ e))
    (c.in-Err.ensures _ _ c.all_put_in-labels.ensures (c.boxed-body.ensures _ c.statement.ensures))

pub each_arm-loop-arm-preserved : goal.each_arm-loop-arm-preserved
each_arm-loop-arm-preserved t c =
    let form = arm-form c.arm-item.result c.as_slice.result.now c.get.result.now (values_of c.args.scope.now.env) c.loop-arm.p c.as_slice.ensures c.get.ensures in
    ap (λ d. each (arm_in unroll) d (drop (c.loop-arm.arm-index + 1) c.args.arms.now) (values_of c.args.scope.now.env) c.in-Ok.step.1) c.in-Ok-push.ensures.ok
    ∙ sym (each-goes (arm_in unroll) c.loop-arm.done c.args.arms.now c.loop-arm.arm-index c.arm-item.result (values_of c.args.scope.now.env) c.loop-arm.p c.in-Ok.step (omega arith) c.arm-item.is c.if-p.false
    (form ∙ c.in-Ok.ensures _ _ c.all_put_in-labels.ensures (c.boxed-body.ensures _ c.statement.ensures)))
    ∙ c.loop-arm.invariant

pub statement-returns-in-If : goal.statement-returns-in-If
statement-returns-in-If t c =
    same_answer c.choice.result _ _ (if-form _ _ _ _ _ _ (values_of c.args.scope.now.env) _ c.in-If.is c.get.ensures) (c.choice.ensures _ _ c.put_in-test.ensures (c.side-sides.ensures _ (c.boxed-first.ensures _ c.statement.ensures)))

pub statement-returns-in-Case : goal.statement-returns-in-Case
statement-returns-in-Case t c =
    same_answer c.case.result _ _ (case-form _ _ _ _ _ _ (values_of c.args.scope.now.env) _ c.in-Case.is c.as_slice-in-Case.ensures) (c.case.ensures _ _ c.put_in-selector.ensures c.each_arm-arms.ensures)

pub turns-returns-in-Err : goal.turns-returns-in-Err
turns-returns-in-Err t c =
    unless_memory (λ e. sym c.loop-left.invariant ∙ turns-fault c.loop-left.left c.args.header.now (running (values_of c.args.scope.now.env) c.args.header.now c.args.body.now) (unroll c.args.body.now) c.loop-left.v c.loop-left.done c.loop-left.p c.in-Err.fault (omega arith) e)
    c.in-Err.ensures

pub turns-returns-in-Ended : goal.turns-returns-in-Ended
turns-returns-in-Ended t c =
    same_answer c.ended.result _ _
    (sym (turns-ended c.loop-left.left c.args.header.now (running (values_of c.args.scope.now.env) c.args.header.now c.args.body.now) (unroll c.args.body.now) c.loop-left.v c.loop-left.done c.loop-left.p (omega arith) (c.in-Ok.ensures ∙ ap Ok c.in-Ended.is)) ∙ c.loop-left.invariant)
    c.ended.ensures

pub turns-returns-in-Full : goal.turns-returns-in-Full
turns-returns-in-Full t c =
    sym c.loop-left.invariant ∙ turns-full c.loop-left.left c.args.header.now (running (values_of c.args.scope.now.env) c.args.header.now c.args.body.now) (unroll c.args.body.now) c.loop-left.v c.loop-left.done c.loop-left.p (omega arith) (c.in-Ok.ensures ∙ ap Ok c.in-Full.is)
    ∙ ap (λ q. Ok (c.loop-left.done, q)) (sym c.cut.ensures)

pub turns-returns-in-Cut : goal.turns-returns-in-Cut
turns-returns-in-Cut t c =
    same_answer c.pushed.result _ _
    (sym (turns-cut c.loop-left.left c.args.header.now (running (values_of c.args.scope.now.env) c.args.header.now c.args.body.now) (unroll c.args.body.now) c.loop-left.v c.loop-left.done c.loop-left.p c.in-Cut.s c.in-Cut.q (omega arith) (c.in-Ok.ensures ∙ ap Ok c.in-Cut.is)) ∙ c.loop-left.invariant)
    c.pushed.ensures

pub turns-loop-left-preserved : goal.turns-loop-left-preserved
turns-loop-left-preserved t c =
    ap (λ d. turns (c.loop-left.left - 1) c.args.header.now (running (values_of c.args.scope.now.env) c.args.header.now c.args.body.now) (unroll c.args.body.now) c.in-Made.w d c.in-Made.q) c.in-Ok-push.ensures.ok
    ∙ sym (turns-made c.loop-left.left (c.loop-left.left - 1) c.args.header.now (running (values_of c.args.scope.now.env) c.args.header.now c.args.body.now) (unroll c.args.body.now) c.loop-left.v c.loop-left.done c.loop-left.p c.in-Made.s c.in-Made.w c.in-Made.q (omega arith) refl (c.in-Ok.ensures ∙ ap Ok c.in-Made.is))
    ∙ c.loop-left.invariant

pub turns-returns : goal.turns-returns
turns-returns t c =
    sym c.loop-left.invariant ∙ turns-none c.loop-left.left c.args.header.now (running (values_of c.args.scope.now.env) c.args.header.now c.args.body.now) (unroll c.args.body.now) c.loop-left.v c.loop-left.done c.loop-left.p (omega arith)
    ∙ ap (λ q. Ok (c.loop-left.done, q)) (sym c.cut-2.ensures)
