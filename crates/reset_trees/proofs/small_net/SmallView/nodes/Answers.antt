use Rattle.cons_bind.proofs.SmallNetLemmas.{small_net}
use Rattle.reset_trees.proofs.small_net.SmallView.nodes.Goals as goal

pub returns-clause-lawful : goal.returns-clause-lawful
returns-clause-lawful c = small_net
