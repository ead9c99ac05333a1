use Rattle.proc_loops.proofs.LoopLaws.{no_loops}
use Rattle.proc_loops.proofs.laws.no_loop_is_left.Goals as goal

pub returns : goal.returns
returns c = no_loops
