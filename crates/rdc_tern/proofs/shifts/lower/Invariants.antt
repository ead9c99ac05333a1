use Rattle.std.proofs.Common.{◌≡◌, ◌++◌, take, drop}
use Rattle.rdc_tern.specs.Shifts.{select_of, lowered}
use Rattle.rdc_tern.proofs.shifts.lower.Given as goal

abbrev pub invariant-loop-place : goal.invariant-loop-place
invariant-loop-place l = take l.place l.word ++ select_of l.bit (lowered l.fill l.distance (drop l.place l.word)) (drop l.place l.word) ≡ select_of l.bit (lowered l.fill l.distance l.fn.word) l.fn.word
