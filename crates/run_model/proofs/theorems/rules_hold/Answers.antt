use Rattle.run_model.proofs.Rules.{rules_in_run}
use Rattle.run_model.proofs.theorems.rules_hold.Goals as goal

pub returns : goal.returns
returns c = rules_in_run
