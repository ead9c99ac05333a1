use Rattle.run_model.proofs.AgreesLemmas.{agreeing_safe}
use Rattle.run_model.proofs.theorems.agreeing_is_safe.Goals as goal

pub returns : goal.returns
returns c = agreeing_safe
