use Rattle.net_tests.proofs.ConeNetLemmas.{small_net}
use Rattle.net_tests.proofs.cones.SmallView.nodes.Goals as goal

pub returns-clause-lawful : goal.returns-clause-lawful
returns-clause-lawful c = small_net
