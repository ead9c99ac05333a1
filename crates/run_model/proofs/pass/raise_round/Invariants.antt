use Rattle.std.proofs.Common.{◌≡◌, drop, map}
use Rattle.net_view.specs.Values.{State, at, values}
use Rattle.run_model.specs.Up.{up_value, swept}
use Rattle.run_model.specs.Netlist.{net_of, sources_of}
use Rattle.run_model.specs.Passes.{FallsIf}
use Rattle.run_model.proofs.pass.raise_round.Given as goal

-- what is left to raise leads to what all leads to
abbrev pub invariant-loop-source : goal.invariant-loop-source
invariant-loop-source g l =
    let net = net_of (g.V.View.gates l.view) (g.V.FlopNet.names l.view) (g.V.FlopNet.kinds l.view) (g.V.FlopNet.named_bits l.view) in
    record {
      left : (s : State) → l.buf ≡ values (g.V.View.gates l.view) s → swept (λ x t v. up_value x s v) (sources_of net) (map g.V.View.source_number (drop l.source-index l.order)) (at l.new)
          ≡ swept (λ x t v. up_value x s v) (sources_of net) (map g.V.View.source_number l.order) (at l.initial.new);
      falls : FallsIf l.changed l.initial.new l.new;
    }
