use Rattle.std.proofs.Common.{◌≡◌, map, take, All}
use Rattle.net_view.proofs.SourceLemmas.{Found}
use Rattle.net_view.proofs.cones.sources_of.Given as goal

abbrev pub invariant-nodes : goal.invariant-nodes
invariant-nodes g l = record {
  numbers : All (λ p. p.0 ≡ g.V.View.source_number p.1) l.found.items;
  found : Found (g.V.View.gates l.view) (take l.n-index l.nodes) (map (λ p. p.0) l.found.items);
}
