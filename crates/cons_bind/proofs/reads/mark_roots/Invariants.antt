-- The flops whose nodes were looked at have their roots marked.
use Rattle.cons_bind.specs.Reading.{Adds}
use Rattle.cons_bind.proofs.ReadsLemmas.{RootBelow}
use Rattle.cons_bind.proofs.reads.mark_roots.Given as goal

abbrev pub invariant-nodes : goal.invariant-nodes
invariant-nodes g l = Adds (RootBelow (g.V.View.gates l.view) (g.V.FlopNet.kinds l.view) l.n) l.initial.marks l.marks
