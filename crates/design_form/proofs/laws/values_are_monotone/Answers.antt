use Rattle.design_form.proofs.StateLaws.{values_raise}
use Rattle.design_form.proofs.laws.values_are_monotone.Goals as goal

pub returns : goal.returns
returns c = values_raise
