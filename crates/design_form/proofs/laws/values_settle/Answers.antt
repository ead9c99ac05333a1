use Rattle.design_form.proofs.StateLaws.{all_settle}
use Rattle.design_form.proofs.laws.values_settle.Goals as goal

pub returns : goal.returns
returns c = all_settle
