-- The sources that were looked at have their edges.
use Rattle.std.proofs.Common.{List}
use Rattle.cons_bind.specs.Names.{net_of}
use Rattle.cons_bind.specs.declared.bound.BoundForm.{BoundForm}
use Rattle.reset_trees.specs.Marking.{AreLevels}
use Rattle.reset_trees.proofs.EdgeLemmas.{EdgesBelow}
use Rattle.reset_trees.proofs.edges.edges_of.Given as goal

abbrev pub invariant-sources : goal.invariant-sources
invariant-sources g l = (lines : List BoundForm) → AreLevels lines l.levels
    → EdgesBelow (net_of (g.V.View.gates l.view) (g.V.FlopNet.names l.view) (g.V.FlopNet.kinds l.view) (g.V.FlopNet.named_bits l.view)) lines l.flop l.edges
