use Rattle.std.proofs.Common.{◌≡◌, ℕ, None, vec_len, vec_capacity}
use Rattle.sat_chain.specs.Marks.{at}
use Rattle.sat_chain.proofs.checker.empty_marks.Given as goal

abbrev pub invariant-loop-i : goal.invariant-loop-i
invariant-loop-i l = record {
  len : vec_len l.marks ≡ l.i;
  capacity : vec_capacity l.marks ≡ l.count;
  none : (x : ℕ) → at l.marks.items x ≡ None;
}
