use Rattle.std.proofs.Common.{None, map}
use Rattle.run_model.specs.Netlist.{net_of, level_of}
use Rattle.run_model.proofs.Ordered.{ordered_alike}
use Rattle.run_model.proofs.step.step_into.Goals as goal

pub edge-requires-clause-ordered : goal.edge-requires-clause-ordered
edge-requires-clause-ordered g c =
    let net = net_of (g.V.View.gates c.args.view.now) (g.V.FlopNet.names c.args.view.now) (g.V.FlopNet.kinds c.args.view.now) (g.V.FlopNet.named_bits c.args.view.now) in
    ordered_alike net (level_of c.args.resets.now) (λ n. None) (λ n. None) (λ n. None) (map g.V.View.source_number c.args.order.now) c.requires.ordered

pub edge-requires-in-Fall-clause-ordered : goal.edge-requires-in-Fall-clause-ordered
edge-requires-in-Fall-clause-ordered g c =
    let net = net_of (g.V.View.gates c.args.view.now) (g.V.FlopNet.names c.args.view.now) (g.V.FlopNet.kinds c.args.view.now) (g.V.FlopNet.named_bits c.args.view.now) in
    ordered_alike net (level_of c.args.resets.now) (λ n. None) (λ n. None) (λ n. None) (map g.V.View.source_number c.args.order.now) c.requires.ordered

pub strike-requires-clause-ordered : goal.strike-requires-clause-ordered
strike-requires-clause-ordered g c =
    let net = net_of (g.V.View.gates c.args.view.now) (g.V.FlopNet.names c.args.view.now) (g.V.FlopNet.kinds c.args.view.now) (g.V.FlopNet.named_bits c.args.view.now) in
    ordered_alike net (level_of c.args.resets.now) (λ n. None) (λ n. None) (λ n. None) (map g.V.View.source_number c.args.order.now) c.requires.ordered

pub release-requires-clause-ordered : goal.release-requires-clause-ordered
release-requires-clause-ordered g c =
    let net = net_of (g.V.View.gates c.args.view.now) (g.V.FlopNet.names c.args.view.now) (g.V.FlopNet.kinds c.args.view.now) (g.V.FlopNet.named_bits c.args.view.now) in
    ordered_alike net (level_of c.args.resets.now) (λ n. None) (λ n. None) (λ n. None) (map g.V.View.source_number c.args.order.now) c.requires.ordered

pub drive-requires-clause-ordered : goal.drive-requires-clause-ordered
drive-requires-clause-ordered g c =
    let net = net_of (g.V.View.gates c.args.view.now) (g.V.FlopNet.names c.args.view.now) (g.V.FlopNet.kinds c.args.view.now) (g.V.FlopNet.named_bits c.args.view.now) in
    ordered_alike net (level_of c.args.resets.now) (λ n. None) (λ n. None) (λ n. None) (map g.V.View.source_number c.args.order.now) c.requires.ordered
