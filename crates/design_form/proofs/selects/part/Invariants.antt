-- The bits so far, and those that are left.
use Rattle.std.proofs.Common.{◌≡◌, ◌-◌, ◌++◌}
use Rattle.design_form.specs.Selects.{part_from}
use Rattle.design_form.proofs.selects.part.Given as goal

abbrev pub invariant-loop-place : goal.invariant-loop-place
invariant-loop-place l = l.out.items ++ part_from l.range l.word l.second l.place (l.width - l.place) ≡ part_from l.range l.word l.second 0 l.width
