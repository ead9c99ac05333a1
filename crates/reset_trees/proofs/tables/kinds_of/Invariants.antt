-- The sources of the nodes that were looked at have their kinds.
use Rattle.reset_trees.specs.Tables.{Fills}
use Rattle.reset_trees.proofs.tables.kinds_of.Given as goal

abbrev pub invariant-nodes : goal.invariant-nodes
invariant-nodes g l = Fills (g.V.View.gates l.view) (g.V.FlopNet.kinds l.view) l.n l.kinds.items
