-- What is marked, and the bits that are left.
use Rattle.std.proofs.Common.{◌≡◌, ℕ, ◌<◌, ◌||◌, false, length, get_or, drop}
use Rattle.proc_values.specs.Runs.{is_among}
use Rattle.proc_values.proofs.changes.marked.Given as goal

abbrev pub invariant-loop-i : goal.invariant-loop-i
invariant-loop-i l = record {
  long : length l.marks.items ≡ l.count;
  marked : (n : ℕ) → n < l.count → (get_or l.marks.items n false || is_among (drop l.i l.bits) n) ≡ is_among l.bits n;
}
