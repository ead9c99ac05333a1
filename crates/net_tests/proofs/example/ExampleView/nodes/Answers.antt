use Rattle.net_tests.proofs.ExampleNetLemmas.{example_net}
use Rattle.net_tests.proofs.example.ExampleView.nodes.Goals as goal

pub returns-clause-lawful : goal.returns-clause-lawful
returns-clause-lawful c = example_net
