use Rattle.std.proofs.Common.{◌≡◌, drop, map}
use Rattle.net_view.specs.Values.{at}
use Rattle.run_model.specs.Event.{edge_value}
use Rattle.run_model.specs.Netlist.{net_of, sources_of}
use Rattle.run_model.specs.Passes.{written}
use Rattle.run_model.proofs.edges.clock_all.Given as goal

-- what is left to clock leads to what all leads to
abbrev pub invariant-loop-source : goal.invariant-loop-source
invariant-loop-source g l =
    let net = net_of (g.V.View.gates l.view) (g.V.FlopNet.names l.view) (g.V.FlopNet.kinds l.view) (g.V.FlopNet.named_bits l.view) in
    written (λ n. edge_value (sources_of net n) l.clock l.rising (at l.old) (at l.old n)) (map g.V.View.source_number (drop l.source-index l.order)) (at l.new)
    ≡ written (λ n. edge_value (sources_of net n) l.clock l.rising (at l.old) (at l.old n)) (map g.V.View.source_number l.order) (at l.initial.new)
