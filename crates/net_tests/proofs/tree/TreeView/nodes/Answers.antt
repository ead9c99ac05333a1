use Rattle.net_tests.proofs.TreeNetLemmas.{tree_net}
use Rattle.net_tests.proofs.tree.TreeView.nodes.Goals as goal

pub returns-clause-lawful : goal.returns-clause-lawful
returns-clause-lawful c = tree_net
