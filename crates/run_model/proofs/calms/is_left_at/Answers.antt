use Rattle.std.proofs.Common.{refl}
use Rattle.run_model.specs.Netlist.{net_of, sources_of, renumbered_flop, flop_meaning}
use Rattle.run_model.proofs.Reading.{is_left-flop}
use Rattle.run_model.proofs.calms.is_left_at.Goals as goal

pub returns-in-Some : goal.returns-in-Some
returns-in-Some g c = λ s valued.
    let net = net_of (g.V.View.gates c.args.view.now) (g.V.FlopNet.names c.args.view.now) (g.V.FlopNet.kinds c.args.view.now) (g.V.FlopNet.named_bits c.args.view.now) in
    let n = g.V.View.source_number c.args.source in
    is_left-flop (sources_of net n) (flop_meaning net n (renumbered_flop g.V.View.node_number c.in-Some.flop)) c.in-Some.ensures.value s c.args.value
    c.phase.result c.is_exposed.result (c.phase.ensures net n s refl valued) c.is_exposed.ensures
