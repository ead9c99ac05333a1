-- The law is the lemma.
use Rattle.flat_laws.proofs.Small.{are_small}
use Rattle.flat_laws.proofs.laws.flat_designs_are_small.Goals as goal

pub returns : goal.returns
returns c = are_small
