-- What is refuted has no model.
use Rattle.sat_core.proofs.SoundLemmas.{result_sound}
use Rattle.sat_core.proofs.solver.solve.Goals as goal

pub returns-clause-sound : goal.returns-clause-sound
returns-clause-sound c = result_sound c.args.clauses.now c.args.budget c.answer.result c.len-count.ensures.lawful c.answer.ensures
