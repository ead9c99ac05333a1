-- The clocks of the sources that were looked at are marked where they are read.
use Rattle.std.proofs.Common.{take}
use Rattle.cons_bind.specs.Marks.{Marks}
use Rattle.cons_bind.specs.Reading.{AreUnmarked}
use Rattle.reset_trees.specs.Tables.{IsMarked, IsClockIn}
use Rattle.reset_trees.proofs.clocks.mark_clocks.Given as goal

abbrev pub invariant-kinds : goal.invariant-kinds
invariant-kinds l = AreUnmarked l.initial.marks → Marks (λ c. IsClockIn (take l.kind-index l.kinds) c × IsMarked l.read c) l.marks
