-- The strokes so far, and those that are left.
use Rattle.std.proofs.Common.{◌≡◌, ◌++◌, drop}
use Rattle.net_procs.specs.Targets.{onto_all}
use Rattle.net_procs.proofs.strokes.onto_all.Given as goal

abbrev pub invariant-loop-i : goal.invariant-loop-i
invariant-loop-i l = l.strokes.items ++ onto_all (drop l.i l.bits) (drop l.i l.word) ≡ onto_all l.bits l.word
