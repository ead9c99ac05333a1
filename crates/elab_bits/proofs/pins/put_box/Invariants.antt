-- What is left decides what all add.
use Rattle.std.proofs.Common.{◌≡◌, ◌++◌, drop}
use Rattle.std.specs.List.{flat_map}
use Rattle.elab_bits.specs.Parts.{pin_bits}
use Rattle.elab_bits.proofs.pins.put_box.Given as goal

abbrev pub invariant-loop-port : goal.invariant-loop-port
invariant-loop-port l = l.touches.items ++ flat_map (pin_bits l.design.signals l.side l.owner) (drop l.port-index l.ports) ≡ l.fn.touches.items ++ flat_map (pin_bits l.design.signals l.side l.owner) l.ports
