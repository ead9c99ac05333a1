-- The table of the touches so far.
use Rattle.std.proofs.Common.{take}
use Rattle.elab_bits.specs.Tables.{HoldsFirsts}
use Rattle.elab_bits.proofs.tables.table_of.Given as goal

abbrev pub invariant-loop-touch : goal.invariant-loop-touch
invariant-loop-touch l = HoldsFirsts l.table.items l.count (take l.touch-index l.touches)
