use Rattle.std.proofs.Common.{◌≡◌, drop}
use Rattle.sat_chain.specs.Clause.{ascends_above}
use Rattle.solve_tests.proofs.searching.ascends.Given as goal

abbrev pub invariant-loop-lit : goal.invariant-loop-lit
invariant-loop-lit l = ascends_above l.last (drop l.lit-index l.lits) ≡ ascends_above 0 l.lits
