use Rattle.elab_names.proofs.KeptWorth.{kept}
use Rattle.elab_names.proofs.laws.constants_keep_their_worth.Goals as goal

pub returns : goal.returns
returns c = λ frames e x hold is. kept frames hold e x is
