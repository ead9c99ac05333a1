use Rattle.reset_trees.proofs.TangledNetLemmas.{tangled_net}
use Rattle.reset_trees.proofs.tangled_net.TangledView.nodes.Goals as goal

pub returns-clause-lawful : goal.returns-clause-lawful
returns-clause-lawful c = tangled_net
