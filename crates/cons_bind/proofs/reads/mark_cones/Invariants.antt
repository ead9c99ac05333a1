-- The nodes that were looked at have their fan-ins marked.
use Rattle.std.proofs.Common.{◌≤◌, length}
use Rattle.cons_bind.proofs.ReadsLemmas.{Closed}
use Rattle.cons_bind.proofs.reads.mark_cones.Given as goal

abbrev pub invariant-nodes : goal.invariant-nodes
invariant-nodes g l = record { closed : Closed (g.V.View.gates l.view) l.initial.marks l.marks l.n; within : l.n ≤ length (g.V.View.gates l.view) }

abbrev pub decreases-nodes : goal.decreases-nodes
decreases-nodes g l = l.n
