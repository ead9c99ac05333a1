-- By the lemmas on states.
use Rattle.tern_cnf.proofs.StatesLemmas.{models_are_states, assignment_rails, assignment_further}
use Rattle.tern_cnf.proofs.laws.models_are_states.Goals as goal

pub returns-clause-models : goal.returns-clause-models
returns-clause-models c = models_are_states

pub returns-clause-rails : goal.returns-clause-rails
returns-clause-rails c = assignment_rails

pub returns-clause-further : goal.returns-clause-further
returns-clause-further c = assignment_further
