-- What is left decides what all add.
use Rattle.std.proofs.Common.{◌≡◌, ◌++◌, drop}
use Rattle.std.specs.List.{flat_map}
use Rattle.elab_bits.specs.Parts.{port_bits}
use Rattle.elab_bits.proofs.inputs.put_inputs.Given as goal

abbrev pub invariant-loop-port : goal.invariant-loop-port
invariant-loop-port l = l.bits.items ++ flat_map (port_bits l.design.signals) (drop l.port-index l.ports) ≡ l.fn.bits.items ++ flat_map (port_bits l.design.signals) l.ports
