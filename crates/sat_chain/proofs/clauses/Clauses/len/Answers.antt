-- The invariant says it.
use Rattle.std.proofs.Common.{◌<◌, ◌^◌, subst}
use Rattle.sat_chain.specs.Clause.{Problem, AreClauses}
use Rattle.sat_chain.proofs.clauses.Clauses.len.Goals as goal

pub returns-clause-lawful : goal.returns-clause-lawful
returns-clause-lawful c = subst (λ (k : Problem). AreClauses k.vars k.clauses) c.self.view_is c.self.invariant.clauses

pub returns-clause-few : goal.returns-clause-few
returns-clause-few c = subst (λ (k : Problem). k.vars < 2 ^ 31) c.self.view_is c.self.invariant.few
