use Rattle.net_tests.proofs.PinOrders.{example_ordered}
use Rattle.net_tests.proofs.example.step.Goals as goal

pub step_into-answer-requires-clause-ordered : goal.step_into-answer-requires-clause-ordered
step_into-answer-requires-clause-ordered c = example_ordered
