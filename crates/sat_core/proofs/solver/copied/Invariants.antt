use Rattle.std.proofs.Common.{◌≡◌, take}
use Rattle.sat_core.proofs.solver.copied.Given as goal

abbrev pub invariant-loop-n : goal.invariant-loop-n
invariant-loop-n l = record {
  vars : l.store.vars ≡ l.clauses.vars;
  clauses : l.store.clauses ≡ take l.n l.clauses.clauses;
}
