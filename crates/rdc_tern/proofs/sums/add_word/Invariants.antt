use Rattle.std.proofs.Common.{◌≡◌, ◌++◌, take, drop, map}
use Rattle.rdc_tern.specs.Kleene.{xor_of}
use Rattle.rdc_tern.specs.Words.{sum_of}
use Rattle.rdc_tern.proofs.sums.add_word.Given as goal

abbrev pub invariant-loop-i : goal.invariant-loop-i
invariant-loop-i l = take l.i l.sum ++ sum_of l.carry (drop l.i l.sum) (drop l.i (map (xor_of l.minus) l.other)) ≡ sum_of l.minus l.fn.sum (map (xor_of l.minus) l.other)
