use Rattle.std.proofs.Common.{map}
use Rattle.net_view.specs.View.{renumbered}
use Rattle.net_view.specs.Due.{Cuts}
use Rattle.net_view.proofs.slices.gates_here.Given as goal

abbrev pub invariant-nodes : goal.invariant-nodes
invariant-nodes g l = Cuts (g.V.View.gates l.whole) l.nodes l.sources (map (renumbered (λ n. n) (λ s. s)) l.gates.items) l.n-index
