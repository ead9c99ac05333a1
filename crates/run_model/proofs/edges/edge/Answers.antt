use Rattle.std.proofs.Common.{ap, ◌∙◌, map}
use Rattle.net_view.specs.Values.{at}
use Rattle.run_model.specs.Up.{up_value, swept}
use Rattle.run_model.specs.Event.{edge_value}
use Rattle.run_model.specs.Netlist.{net_of, sources_of, machine_of}
use Rattle.run_model.specs.Passes.{written}
use Rattle.run_model.proofs.Answered.{edge_steps}
use Rattle.run_model.proofs.edges.edge.Goals as goal

pub returns-clause-step : goal.returns-clause-step
returns-clause-step g c = λ declared fixed.
    let net = net_of (g.V.View.gates c.args.view.now) (g.V.FlopNet.names c.args.view.now) (g.V.FlopNet.kinds c.args.view.now) (g.V.FlopNet.named_bits c.args.view.now) in
    let ns = map g.V.View.source_number c.args.order.now in
    edge_steps (machine_of net declared fixed ns) c.requires.ordered.listed (at c.args.old.now) c.args.clock c.args.rising
    c.least_taking-least.result c.answer_by.result (at c.raise_all.new.new) c.least_taking-least.ensures c.answer_by.ensures.value
    (c.raise_all.ensures.raised
    ∙ ap (λ u. swept up_value (sources_of net) ns u) (c.clock_all.ensures
    ∙ ap (λ xs. written (λ n. edge_value (sources_of net n) c.args.clock c.args.rising (at c.args.old.now) (at c.args.old.now n)) ns (at xs)) c.copy_from_slice.ensures.after))
