-- The nodes that are left decide all.
use Rattle.std.proofs.Common.{◌≡◌, ℕ, ◌<◌, All, drop, length}
use Rattle.net_procs.specs.Runs.{scattered}
use Rattle.net_procs.proofs.wires.put_back.Given as goal

abbrev pub invariant-loop-i : goal.invariant-loop-i
invariant-loop-i l = record {
  left : scattered (drop l.i l.bits) (drop l.i l.word) l.nodes ≡ scattered l.bits l.word l.fn.nodes;
  long : length l.nodes ≡ length l.fn.nodes;
  inside : (count : ℕ) → All (λ n. n < count) l.word → All (λ n. n < count) l.fn.nodes → All (λ n. n < count) l.nodes;
}
