use Rattle.std.proofs.Common.{◌≡◌, ◌+◌, ◌≤◌, drop}
use Rattle.sat_chain.specs.Marks.{at, live_in, merged, turned}
use Rattle.sat_chain.proofs.marks.merge.Given as goal

abbrev pub invariant-loop-lit : goal.invariant-loop-lit
invariant-loop-lit l = record {
  union : merged (at l.marks) (drop l.lit-index l.clause) ≡ merged (at l.initial.marks) l.clause;
  live : l.live ≡ live_in l.marks;
  turned : l.turned + turned (at l.marks) (drop l.lit-index l.clause) ≡ turned (at l.initial.marks) l.clause;
  few : l.turned ≤ l.lit-index;
}
