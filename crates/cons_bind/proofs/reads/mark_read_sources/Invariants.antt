-- The marked nodes that were looked at have their sources marked.
use Rattle.cons_bind.specs.Marks.{Marks}
use Rattle.cons_bind.specs.Reading.{AreUnmarked}
use Rattle.cons_bind.proofs.ReadsLemmas.{MarkedBelow}
use Rattle.cons_bind.proofs.reads.mark_read_sources.Given as goal

abbrev pub invariant-nodes : goal.invariant-nodes
invariant-nodes g l = AreUnmarked l.initial.marks → Marks (MarkedBelow (g.V.View.gates l.view) l.nodes l.n) l.marks
