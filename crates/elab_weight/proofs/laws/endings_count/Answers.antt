use Rattle.elab_weight.proofs.Endings.{endings}
use Rattle.elab_weight.proofs.laws.endings_count.Goals as goal

pub returns : goal.returns
returns c = endings
