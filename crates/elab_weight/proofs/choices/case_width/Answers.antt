use Rattle.std.proofs.Common.{ap, ◌∙◌, arith}
use Rattle.vlog_tree.specs.declared.stmt.Arm.{Arm}
use Rattle.vlog_tree.specs.declared.stmt.Stmt.{Stmt}
use Rattle.vlog_const.specs.declared.shape.Shape.{Shape}
use Rattle.design_form.specs.Extents.{shape_of}
use Rattle.design_sizes.specs.Sizes.{common_of}
use Rattle.elab_weight.proofs.CommonLemmas.{all-next, all-end}
use Rattle.elab_weight.proofs.choices.case_width.Goals as goal

pub loop-arm-preserved : goal.loop-arm-preserved
loop-arm-preserved c =
    all-next c.args.design.now (λ (a : Arm Stmt). a.labels) c.args.arms.now c.loop-arm.arm-index c.arm-item.result (shape_of c.loop-arm.context) (shape_of c.in_ok-context-2.context) _
    c.loop-arm-test.true c.arm-item.is (c.in_ok-context-2.ensures ∙ ap (common_of c.args.design.now (shape_of c.loop-arm.context)) c.as_slice.ensures) c.loop-arm.invariant

pub returns : goal.returns
returns c = ap (λ (s : Shape). s.width) (all-end c.args.design.now (λ (a : Arm Stmt). a.labels) c.args.arms.now c.loop-arm.arm-index (shape_of c.loop-arm.context) _ (omega arith) c.loop-arm.invariant)
