-- There are as many places as bytes were passed.
use Rattle.std.proofs.Common.{◌≡◌, vec_len}
use Rattle.proc_tests.proofs.reading.text_of.Given as goal

abbrev pub invariant-loop-i : goal.invariant-loop-i
invariant-loop-i l = vec_len l.places ≡ l.i
