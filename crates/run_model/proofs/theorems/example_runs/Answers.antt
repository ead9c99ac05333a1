use Rattle.run_model.proofs.ExampleLemmas.{example_proved}
use Rattle.run_model.proofs.theorems.example_runs.Goals as goal

pub returns : goal.returns
returns c = example_proved
