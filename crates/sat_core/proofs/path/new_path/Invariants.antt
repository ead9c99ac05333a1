use Rattle.std.proofs.Common.{◌≡◌, ◌≤◌, vec_len, vec_capacity}
use Rattle.sat_core.proofs.path.new_path.Given as goal

abbrev pub invariant-loop-i : goal.invariant-loop-i
invariant-loop-i l = record {
  signs : vec_len l.signs ≡ l.i;
  reasons : vec_len l.reasons ≡ l.i;
  signs_room : l.count ≤ vec_capacity l.signs;
  reasons_room : l.count ≤ vec_capacity l.reasons;
}
