use Rattle.std.proofs.Common.{length, map, ◌≤◌}
use Rattle.net_view.specs.Places.{AreNamed, AreFlops}
use Rattle.net_view.proofs.pins.named_flops.Given as goal

abbrev pub invariant-nodes : goal.invariant-nodes
invariant-nodes g l = record {
  few : length l.flops.items ≤ l.n;
  named : AreNamed g.V.View.source_number (g.V.View.source_count l.view) (g.V.FlopNet.names l.view) l.flops.items;
  flops : AreFlops (g.V.View.gates l.view) (g.V.FlopNet.kinds l.view) l.n (map (λ f. f.1) l.flops.items);
}
