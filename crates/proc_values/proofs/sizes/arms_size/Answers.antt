use Rattle.std.proofs.Common.{arith}
use Rattle.design_form.specs.Extents.{shape_of}
use Rattle.proc_values.proofs.SizeLemmas.{wider, wide}
use Rattle.proc_values.proofs.sizes.arms_size.Goals as goal

pub loop-arm-preserved : goal.loop-arm-preserved
loop-arm-preserved c =
    wider c.args.design.now (shape_of c.loop-arm.all) (shape_of c.in_ok-all.all) _ c.args.arms.now c.loop-arm.arm-index c.arm-item.result c.as_slice.result.now (omega arith) c.arm-item.is c.as_slice.ensures
    c.in_ok-all.ensures c.loop-arm.invariant

pub returns : goal.returns
returns c = wide c.args.design.now (shape_of c.loop-arm.all) _ c.args.arms.now c.loop-arm.arm-index (omega arith) c.loop-arm.invariant
