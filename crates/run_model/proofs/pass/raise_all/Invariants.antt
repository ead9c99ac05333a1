use Rattle.std.proofs.Common.{◌≡◌, length, None, map}
use Rattle.net_view.specs.Values.{at, values}
use Rattle.run_model.specs.Laws.{IsMachine}
use Rattle.run_model.specs.Netlist.{net_of, machine_of}
use Rattle.run_model.specs.Passes.{settled_count}
use Rattle.run_model.proofs.Rounds.{IsOnTheWay}
use Rattle.run_model.proofs.pass.raise_all.Given as goal

-- some of the pins have raised their flops
abbrev pub invariant-rounds : goal.invariant-rounds
invariant-rounds g l =
    let net = net_of (g.V.View.gates l.view) (g.V.FlopNet.names l.view) (g.V.FlopNet.kinds l.view) (g.V.FlopNet.named_bits l.view) in
    let m = machine_of net (λ n. None) (λ n. None) (map g.V.View.source_number l.order) in
    record {
      lawful : IsMachine m;
      way : IsOnTheWay m (at l.initial.new) (at l.new);
      valued : l.buf ≡ values (g.V.View.gates l.view) (at l.new);
      fits : length l.buf ≡ length (g.V.View.gates l.view);
    }

-- each round leaves fewer settled values
abbrev pub decreases-rounds : goal.decreases-rounds
decreases-rounds g l = settled_count l.new
