use Rattle.std.proofs.Common.{◌≤◌, drop}
use Rattle.std.specs.List.{AllByRecursion}
use Rattle.sat_chain.specs.Clause.{variable}
use Rattle.solve_tests.proofs.searching.is_within.Given as goal

abbrev pub invariant-loop-lit : goal.invariant-loop-lit
invariant-loop-lit l = AllByRecursion (λ x. variable x ≤ l.vars) (drop l.lit-index l.lits) → AllByRecursion (λ x. variable x ≤ l.vars) l.lits
