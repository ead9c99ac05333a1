-- The bits so far, and those that are left.
use Rattle.std.proofs.Common.{◌≡◌, ◌-◌, ◌++◌}
use Rattle.design_form.specs.Selects.{picked_from}
use Rattle.design_form.proofs.selects.picked.Given as goal

abbrev pub invariant-loop-place : goal.invariant-loop-place
invariant-loop-place l =
    l.out.items ++ picked_from l.hits.items l.select.range l.word l.select.width l.place (l.select.width - l.place)
    ≡ picked_from l.hits.items l.select.range l.word l.select.width 0 l.select.width
