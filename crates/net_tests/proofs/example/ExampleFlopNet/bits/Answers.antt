use Rattle.net_tests.proofs.ExampleNetLemmas.{example_flop_net}
use Rattle.net_tests.proofs.example.ExampleFlopNet.bits.Goals as goal

pub returns-clause-lawful : goal.returns-clause-lawful
returns-clause-lawful c = example_flop_net
