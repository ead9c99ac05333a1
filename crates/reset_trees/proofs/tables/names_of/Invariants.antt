-- The sources of the nodes that were looked at have their names.
use Rattle.reset_trees.specs.Tables.{Fills, names_in}
use Rattle.reset_trees.proofs.tables.names_of.Given as goal

abbrev pub invariant-nodes : goal.invariant-nodes
invariant-nodes g l = Fills (g.V.View.gates l.view) (g.V.FlopNet.names l.view) l.n (names_in l.names.items)
