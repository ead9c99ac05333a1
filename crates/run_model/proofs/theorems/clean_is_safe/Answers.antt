use Rattle.run_model.proofs.SafeLemmas.{clean_safe}
use Rattle.run_model.proofs.theorems.clean_is_safe.Goals as goal

pub returns : goal.returns
returns c = clean_safe
