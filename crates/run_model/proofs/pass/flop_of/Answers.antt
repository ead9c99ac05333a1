use Rattle.std.proofs.Common.{◌<◌, length}
use Rattle.run_model.specs.Netlist.{renumbered_flop}
use Rattle.run_model.proofs.Options.{some_numbered}
use Rattle.run_model.proofs.pass.flop_of.Goals as goal

pub returns-in-Flop-clause-next : goal.returns-in-Flop-clause-next
returns-in-Flop-clause-next g c =
    let connected = c.bits-bits.ensures.lawful.flops (g.V.View.source_number c.args.source) (renumbered_flop g.V.View.node_number c.in-Flop.flop) c.in-Flop.ensures in
    some_numbered g.V.View.node_number c.in-Flop.flop.next (λ p. p < length (g.V.View.gates c.args.view.now)) connected.next

pub returns-in-Flop-clause-pin : goal.returns-in-Flop-clause-pin
returns-in-Flop-clause-pin g c =
    let connected = c.bits-bits.ensures.lawful.flops (g.V.View.source_number c.args.source) (renumbered_flop g.V.View.node_number c.in-Flop.flop) c.in-Flop.ensures in
    some_numbered g.V.View.node_number c.in-Flop.flop.pin (λ p. p < length (g.V.View.gates c.args.view.now)) connected.pin
