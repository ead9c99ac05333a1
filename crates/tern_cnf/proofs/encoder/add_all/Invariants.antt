use Rattle.std.proofs.Common.{◌≡◌, drop}
use Rattle.std.specs.Prelude.{map}
use Rattle.tern_cnf.specs.Grown.{with_clauses}
use Rattle.tern_cnf.proofs.encoder.add_all.Given as goal

abbrev pub invariant-loop-clause : goal.invariant-loop-clause
invariant-loop-clause l = with_clauses l.out (map (λ c. c.items) (drop l.clause-index l.side)) ≡ with_clauses l.fn.out (map (λ c. c.items) l.side)
