use Rattle.std.proofs.Common.{◌≡◌, None, drop, map}
use Rattle.net_view.specs.Values.{at}
use Rattle.run_model.specs.Netlist.{net_of, sources_of}
use Rattle.run_model.specs.Passes.{takes_unsettled, least_of}
use Rattle.run_model.proofs.edges.least_taking.Given as goal

-- the least so far and what is left have the least of all
abbrev pub invariant-loop-source : goal.invariant-loop-source
invariant-loop-source g l =
    let net = net_of (g.V.View.gates l.view) (g.V.FlopNet.names l.view) (g.V.FlopNet.kinds l.view) (g.V.FlopNet.named_bits l.view) in
    least_of (λ n. takes_unsettled (sources_of net n) l.clock l.rising (at l.old)) (map g.V.View.source_number (drop l.source-index l.order)) l.least
    ≡ least_of (λ n. takes_unsettled (sources_of net n) l.clock l.rising (at l.old)) (map g.V.View.source_number l.order) None
