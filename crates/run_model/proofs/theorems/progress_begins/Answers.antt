use Rattle.run_model.proofs.Progress.{progress}
use Rattle.run_model.proofs.theorems.progress_begins.Goals as goal

pub returns : goal.returns
returns c = progress
