use Rattle.net_tests.proofs.TreeNetLemmas.{tree_flop_net}
use Rattle.net_tests.proofs.tree.TreeFlopNet.bits.Goals as goal

pub returns-clause-lawful : goal.returns-clause-lawful
returns-clause-lawful c = tree_flop_net
