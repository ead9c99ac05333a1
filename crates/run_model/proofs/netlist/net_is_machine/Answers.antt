use Rattle.run_model.specs.Netlist.{net_of}
use Rattle.run_model.proofs.NetLemmas.{net_machine}
use Rattle.run_model.proofs.netlist.net_is_machine.Goals as goal

pub returns : goal.returns
returns g c = λ declared fixed order ordered ports.
    net_machine (net_of (g.V.View.gates c.args.view.now) (g.V.FlopNet.names c.args.view.now) (g.V.FlopNet.kinds c.args.view.now) (g.V.FlopNet.named_bits c.args.view.now))
    (g.V.View.source_count c.args.view.now) declared fixed order c.nodes-nodes.ensures.lawful c.bits-bits.ensures.lawful ordered ports
