use Rattle.std.proofs.Common.{◌≡◌, ◌↔◌, ℕ, drop}
use Rattle.sat_chain.specs.Resolvent.{sign_in}
use Rattle.sat_chain.specs.Marks.{at, live_in}
use Rattle.sat_chain.proofs.MarkLemmas.{AscendFrom}
use Rattle.sat_chain.proofs.marks.left_by.Given as goal

abbrev pub invariant-loop-lit : goal.invariant-loop-lit
invariant-loop-lit l = record {
  union : ((x : ℕ) → at l.marks x ≡ sign_in (drop l.lit-index l.lits) x) ↔ ((x : ℕ) → at l.initial.marks x ≡ sign_in l.lits x);
  live : l.live ≡ live_in l.marks;
  ascend : AscendFrom (drop l.lit-index l.lits);
}
