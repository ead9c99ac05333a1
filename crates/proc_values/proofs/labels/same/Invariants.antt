-- The bits so far, and those that are left.
use Rattle.std.proofs.Common.{◌≡◌, drop}
use Rattle.rdc_tern.specs.Kleene.{and_of}
use Rattle.rdc_tern.specs.Words.{all_of}
use Rattle.proc_values.specs.Labels.{same_at}
use Rattle.proc_values.proofs.labels.same.Given as goal

abbrev pub invariant-loop-i : goal.invariant-loop-i
invariant-loop-i l = and_of l.hit (all_of (same_at (drop l.i l.free) (drop l.i l.x) (drop l.i l.y))) ≡ all_of (same_at l.free l.x l.y)
