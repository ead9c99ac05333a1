use Rattle.std.proofs.Common.{◌≡◌, drop}
use Rattle.sat_chain.specs.Resolvent.{reached}
use Rattle.sat_chain.specs.Store.{cut}
use Rattle.sat_chain.specs.Marks.{at, live_in}
use Rattle.sat_chain.proofs.resolution.go_on.Given as goal

abbrev pub invariant-loop-n : goal.invariant-loop-n
invariant-loop-n l = record {
  union : reached (cut l.bounds l.lits) (at l.marks) (drop l.n-index l.chain) ≡ reached (cut l.bounds l.lits) (at l.initial.marks) l.chain;
  live : l.live ≡ live_in l.marks;
}
