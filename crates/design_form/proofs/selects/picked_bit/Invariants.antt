-- The starts so far, and those that are left.
use Rattle.std.proofs.Common.{◌≡◌, drop}
use Rattle.rdc_tern.specs.Kleene.{or_of}
use Rattle.design_form.specs.Selects.{picked_bit}
use Rattle.design_form.proofs.selects.picked_bit.Given as goal

abbrev pub invariant-loop-number : goal.invariant-loop-number
invariant-loop-number l =
    or_of l.found (picked_bit (drop l.number l.hits) l.select.range l.word l.select.width l.number l.place) ≡ picked_bit l.hits l.select.range l.word l.select.width 0 l.place
