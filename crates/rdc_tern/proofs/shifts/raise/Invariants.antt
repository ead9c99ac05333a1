use Rattle.std.proofs.Common.{◌≡◌, ◌-◌, ◌++◌, take, drop}
use Rattle.rdc_tern.specs.declared.value.Tern.TheVariants.{Zero}
use Rattle.rdc_tern.specs.Shifts.{select_of, raised}
use Rattle.rdc_tern.proofs.shifts.raise.Given as goal

abbrev pub invariant-loop-i : goal.invariant-loop-i
invariant-loop-i l =
    select_of l.bit (raised Zero l.distance (take (l.width - l.i) l.word)) (take (l.width - l.i) l.word) ++ drop (l.width - l.i) l.word ≡ select_of l.bit (raised Zero l.distance l.fn.word) l.fn.word
