-- The strokes that are left decide all.
use Rattle.std.proofs.Common.{◌≡◌, drop, length}
use Rattle.proc_values.specs.Runs.{struck}
use Rattle.proc_values.specs.Marks.{Moves}
use Rattle.proc_values.proofs.changes.strike_all.Given as goal

abbrev pub invariant-loop-i : goal.invariant-loop-i
invariant-loop-i l = record {
  left : struck l.bits (drop l.i l.strokes) l.state ≡ struck l.bits l.strokes l.fn.state;
  moves : Moves l.bits l.fn.state l.state;
}
