use Rattle.std.proofs.Common.{refl, sym, ◌∙◌}
use Rattle.run_model.specs.Netlist.{net_of, renumbered_flop, flop_meaning}
use Rattle.run_model.proofs.Reading.{edge_value-clocked}
use Rattle.run_model.proofs.edges.edge_value_of.Goals as goal

pub returns-then-is_loaded : goal.returns-then-is_loaded
returns-then-is_loaded g c = λ s valued value_is.
    let net = net_of (g.V.View.gates c.args.view.now) (g.V.FlopNet.names c.args.view.now) (g.V.FlopNet.kinds c.args.view.now) (g.V.FlopNet.named_bits c.args.view.now) in
    let n = g.V.View.source_number c.args.source in
    edge_value-clocked _ (flop_meaning net n (renumbered_flop g.V.View.node_number c.in-Some.flop)) c.in-Some.ensures.value c.args.clock c.args.rising s c.args.value
    (sym c.is_loaded.ensures ∙ c.if-is_loaded.true) c.phase.result c.data_of.result c.loaded.result
    (c.phase.ensures net n s refl valued) (c.data_of.ensures net n s refl valued value_is) c.loaded.ensures
