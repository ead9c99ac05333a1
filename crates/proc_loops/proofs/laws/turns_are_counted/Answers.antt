use Rattle.proc_loops.proofs.LoopLaws.{few_turns}
use Rattle.proc_loops.proofs.laws.turns_are_counted.Goals as goal

pub returns : goal.returns
returns c = few_turns
