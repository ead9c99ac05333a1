-- What is laid out so is a net.
use Rattle.solve_tests.proofs.SmallNetLemmas.{laid_net}
use Rattle.solve_tests.proofs.small_net.SmallNetView.nodes.Goals as goal

pub returns-clause-lawful : goal.returns-clause-lawful
returns-clause-lawful c = laid_net c.args.self.now.sources c.args.self.now.gates.now c.args.self.now.laid_out
