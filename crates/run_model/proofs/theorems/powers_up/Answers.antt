use Rattle.run_model.proofs.Power.{power_up}
use Rattle.run_model.proofs.theorems.powers_up.Goals as goal

pub returns : goal.returns
returns c = power_up
