use Rattle.std.proofs.Common.{arith}
use Rattle.elab_bits.specs.Parts.{box_bits}
use Rattle.elab_bits.proofs.Rows.{row_more, row_end}
use Rattle.elab_bits.proofs.pins.put_boxes.Goals as goal

pub loop-owner-preserved : goal.loop-owner-preserved
loop-owner-preserved c = row_more (box_bits c.args.design.now.signals c.args.side) c.args.boxes.now c.loop-owner.owner-index c.owner-item.result _ _ _ c.loop-owner-test.true c.owner-item.is c.in_ok-put_box.ensures c.loop-owner.invariant

pub returns : goal.returns
returns c = row_end (box_bits c.args.design.now.signals c.args.side) c.args.boxes.now c.loop-owner.owner-index _ _ (omega arith) c.loop-owner.invariant
