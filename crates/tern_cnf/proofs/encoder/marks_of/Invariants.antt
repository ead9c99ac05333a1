use Rattle.std.proofs.Common.{take}
use Rattle.tern_cnf.specs.Grown.{AreMarks}
use Rattle.tern_cnf.proofs.encoder.marks_of.Given as goal

abbrev pub invariant-loop-k : goal.invariant-loop-k
invariant-loop-k l = AreMarks l.marks.items (take l.k-index l.listed) l.nodes
