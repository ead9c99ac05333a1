-- What is left decides what all add.
use Rattle.std.proofs.Common.{◌≡◌, ◌++◌, drop}
use Rattle.std.specs.List.{flat_map}
use Rattle.elab_bits.specs.Parts.{box_bits}
use Rattle.elab_bits.proofs.pins.put_boxes.Given as goal

abbrev pub invariant-loop-owner : goal.invariant-loop-owner
invariant-loop-owner l = l.touches.items ++ flat_map (box_bits l.design.signals l.side) (drop l.owner-index l.boxes) ≡ l.fn.touches.items ++ flat_map (box_bits l.design.signals l.side) l.boxes
