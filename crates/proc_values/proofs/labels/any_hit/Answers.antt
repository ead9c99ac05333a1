use Rattle.std.proofs.Common.{arith}
use Rattle.design_form.specs.Extents.{shape_of}
use Rattle.proc_values.specs.Labels.{label_hit}
use Rattle.proc_values.proofs.LabelLemmas.{hit_more, hit_end}
use Rattle.proc_values.proofs.SizeLemmas.{covers_at}
use Rattle.proc_values.proofs.labels.any_hit.Goals as goal

pub label_hit-requires : goal.label_hit-requires
label_hit-requires c = covers_at c.args.design.now (shape_of c.args.context) c.args.labels.now c.loop-i.i c.index-labels-i.result c.requires c.loop-i-test.true c.index-labels-i.is

pub loop-i-preserved : goal.loop-i-preserved
loop-i-preserved c =
    rw c.or-hit.ensures (hit_more (label_hit c.args.design.now c.args.now.now c.args.how (shape_of c.args.context) c.args.selector.now) c.loop-i.hit c.in_ok-label_hit.field-0 _ c.args.labels.now c.loop-i.i c.index-labels-i.result
    c.loop-i-test.true c.index-labels-i.is c.in_ok-label_hit.ensures c.loop-i.invariant)

pub returns : goal.returns
returns c = hit_end (label_hit c.args.design.now c.args.now.now c.args.how (shape_of c.args.context) c.args.selector.now) c.loop-i.hit _ c.args.labels.now c.loop-i.i c.loop-i-test.false c.loop-i.invariant
