use Rattle.std.proofs.Common.{◌≡◌, ◌++◌, take, drop}
use Rattle.rdc_tern.specs.declared.value.Tern.TheVariants.{Zero}
use Rattle.rdc_tern.specs.Shifts.{raised}
use Rattle.rdc_tern.specs.Words.{sum_of, masked}
use Rattle.rdc_tern.proofs.sums.add_row.Given as goal

abbrev pub invariant-loop-i : goal.invariant-loop-i
invariant-loop-i l = take l.i l.sum ++ sum_of l.carry (drop l.i l.sum) (drop l.i (masked l.bit (raised Zero l.places l.word))) ≡ sum_of Zero l.fn.sum (masked l.bit (raised Zero l.places l.word))
