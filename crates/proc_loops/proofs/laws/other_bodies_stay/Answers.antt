use Rattle.proc_loops.proofs.PlainBodies.{bodies_stay}
use Rattle.proc_loops.proofs.laws.other_bodies_stay.Goals as goal

pub returns : goal.returns
returns c = bodies_stay
