use Rattle.std.proofs.Common.{◌∙◌}
use Rattle.net_view.specs.Values.{at}
use Rattle.run_model.specs.Event.{edge_value}
use Rattle.run_model.specs.Netlist.{net_of, sources_of}
use Rattle.run_model.proofs.Passed.{written-step}
use Rattle.run_model.proofs.edges.clock_all.Goals as goal

pub loop-source-preserved : goal.loop-source-preserved
loop-source-preserved g c =
    let net = net_of (g.V.View.gates c.args.view.now) (g.V.FlopNet.names c.args.view.now) (g.V.FlopNet.kinds c.args.view.now) (g.V.FlopNet.named_bits c.args.view.now) in
    written-step (λ n. edge_value (sources_of net n) c.args.clock c.args.rising (at c.args.old.now) (at c.args.old.now n)) g.V.View.source_number
    c.args.order.now c.loop-source.source-index c.source-item.result (at c.loop-source.new) (at c.clock_one.new.new)
    c.loop-source-test.true c.source-item.is c.clock_one.ensures
    ∙ c.loop-source.invariant
