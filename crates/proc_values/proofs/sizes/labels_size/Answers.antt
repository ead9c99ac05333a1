use Rattle.std.proofs.Common.{arith}
use Rattle.design_form.specs.Extents.{shape_of}
use Rattle.proc_values.proofs.SizeLemmas.{one_more, all_done}
use Rattle.proc_values.proofs.sizes.labels_size.Goals as goal

pub loop-label-preserved : goal.loop-label-preserved
loop-label-preserved c =
    one_more c.args.design.now (shape_of c.loop-label.all) (shape_of c.common-all.result) (shape_of c.in_ok-size_of.field-0) _ c.args.labels.now c.loop-label.label-index c.label-item.result (omega arith) c.label-item.is
    c.in_ok-size_of.ensures c.common-all.ensures c.loop-label.invariant

pub returns : goal.returns
returns c = all_done c.args.design.now (shape_of c.loop-label.all) _ c.args.labels.now c.loop-label.label-index (omega arith) c.loop-label.invariant
