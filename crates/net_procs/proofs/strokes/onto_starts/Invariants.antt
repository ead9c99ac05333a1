-- The strokes so far, and those that are left.
use Rattle.std.proofs.Common.{◌≡◌, ◌++◌, drop}
use Rattle.net_procs.specs.Targets.{from_starts}
use Rattle.net_procs.proofs.strokes.onto_starts.Given as goal

abbrev pub invariant-loop-i : goal.invariant-loop-i
invariant-loop-i l = l.strokes.items ++ from_starts (drop l.i l.hits) l.select.range l.bits l.select.width l.i l.word ≡ from_starts l.hits l.select.range l.bits l.select.width 0 l.word
