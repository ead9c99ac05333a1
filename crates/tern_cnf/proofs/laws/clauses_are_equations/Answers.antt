-- By the lemmas on clauses and sums.
use Rattle.tern_cnf.proofs.MeetsLemmas.{clause_to, clause_from}
use Rattle.tern_cnf.proofs.SumLemmas.{sum_to, sum_from}
use Rattle.tern_cnf.proofs.laws.clauses_are_equations.Goals as goal

pub returns-clause-clause : goal.returns-clause-clause
returns-clause-clause c = λ a ls. (clause_to a ls, clause_from a ls)

pub returns-clause-sum : goal.returns-clause-sum
returns-clause-sum c = λ a r products positive variables. (sum_to a r products positive variables, sum_from a r products positive variables)
