use Rattle.net_view.specs.Values.{at}
use Rattle.net_view.proofs.ValuesLemmas.{ValuedBelow}
use Rattle.net_view.proofs.evaluation.eval_into.Given as goal

abbrev pub invariant-nodes : goal.invariant-nodes
invariant-nodes g l = ValuedBelow (g.V.View.gates l.view) (at l.sources) l.buf l.n
