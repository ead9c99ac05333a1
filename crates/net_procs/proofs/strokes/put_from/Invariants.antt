-- The strokes so far, and those that are left.
use Rattle.std.proofs.Common.{◌≡◌, ◌++◌, drop}
use Rattle.net_procs.specs.Targets.{from_start}
use Rattle.net_procs.proofs.strokes.put_from.Given as goal

abbrev pub invariant-loop-j : goal.invariant-loop-j
invariant-loop-j l =
    l.strokes.items ++ from_start l.hit l.select.range l.bits l.select.width l.start l.j (drop l.j l.word)
    ≡ l.fn.strokes.items ++ from_start l.hit l.select.range l.bits l.select.width l.start 0 l.word
