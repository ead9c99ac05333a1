use Rattle.std.proofs.Common.{◌≡◌, ◌+◌, ◌*◌, List, length, IfOk, subst, ap, ◌∙◌}
use Rattle.vlog_tree.specs.declared.expr.Expr.{Expr}
use Rattle.vlog_tree.specs.declared.stmt.Stmt.{Stmt}
use Rattle.elab_weight.specs.Limits.{capped}
use Rattle.elab_weight.specs.Choices.{arm_of, choice_weight}
use Rattle.elab_weight.proofs.Capped.{two-sum}
use Rattle.elab_weight.proofs.ChoiceForms.{case-form}
use Rattle.elab_weight.proofs.Sums.{sum-next}
use Rattle.elab_weight.proofs.choices.+choices.Goals as goal

pub choice_weight-returns-in-Ok-case_width : goal.choice_weight-returns-in-Ok-case_width
choice_weight-returns-in-Ok-case_width t c =
    subst (λ z. IfOk c.arms_weight.result (λ n. n ≡ z))
    (case-form c.args.design.now c.args.bits c.args.s.now _ _ c.in-Case.selector c.in-Case.arms c.as_slice-arms.result.now _ c.in-Case.is c.as_slice-arms.ensures c.in-Ok-case_width.ensures)
    c.arms_weight.ensures

pub arms_weight-loop-arm-preserved : goal.arms_weight-loop-arm-preserved
arms_weight-loop-arm-preserved t c =
    sum-next (arm_of c.args.design.now c.args.bits c.args.width) 0 c.args.arms.now c.loop-arm.arm-index c.arm-item.result _ c.plus.result _
    c.loop-arm-test.true c.arm-item.is
    (two-sum _ _ _ _ c.plus.result (c.labels-labels.ensures ∙ ap (λ (ls : List Expr). capped (length ls * (4 * c.args.bits + 8 * c.args.width))) c.as_slice.ensures)
    (c.in-Ok.ensures ∙ ap (λ (s : Stmt). capped (choice_weight c.args.design.now c.args.bits s)) c.get.ensures) c.plus.ensures)
    c.plus-weight.ensures c.loop-arm.invariant

pub each_weight-loop-s-preserved : goal.each_weight-loop-s-preserved
each_weight-loop-s-preserved t c =
    sum-next (choice_weight c.args.design.now c.args.bits) 0 c.args.ss.now c.loop-s.s-index c.s-item.result _ _ _ c.loop-s-test.true c.s-item.is c.in-Ok.ensures c.plus-weight.ensures c.loop-s.invariant
