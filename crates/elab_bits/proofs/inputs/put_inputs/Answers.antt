use Rattle.std.proofs.Common.{arith}
use Rattle.elab_bits.specs.Parts.{port_bits, input_bits}
use Rattle.elab_bits.proofs.Rows.{row_more, row_end}
use Rattle.elab_bits.proofs.inputs.put_inputs.Goals as goal

pub loop-port-preserved : goal.loop-port-preserved
unfolding input_bits
loop-port-preserved c = row_more (port_bits c.args.design.now.signals) c.args.ports.now c.loop-port.port-index c.port-item.result _ _ _ c.loop-port-test.true c.port-item.is c.in_ok-put_port.ensures c.loop-port.invariant

pub returns : goal.returns
unfolding input_bits
returns c = row_end (port_bits c.args.design.now.signals) c.args.ports.now c.loop-port.port-index _ _ (omega arith) c.loop-port.invariant
