use Rattle.cons_bind.proofs.SmallNetLemmas.{small_flop_net}
use Rattle.reset_trees.proofs.small_net.SmallFlopNet.bits.Goals as goal

pub returns-clause-lawful : goal.returns-clause-lawful
returns-clause-lawful c = small_flop_net
