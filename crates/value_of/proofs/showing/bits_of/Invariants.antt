-- The bits so far, and those of what is left.
use Rattle.std.proofs.Common.{◌≡◌, ◌-◌, ◌++◌}
use Rattle.design_form.specs.Bits.{bits}
use Rattle.value_of.proofs.showing.bits_of.Given as goal

abbrev pub invariant-loop-place : goal.invariant-loop-place
invariant-loop-place l = l.word.items ++ bits (l.width - l.place) l.left ≡ bits l.width l.number
