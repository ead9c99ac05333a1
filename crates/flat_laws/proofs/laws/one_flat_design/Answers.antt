-- The law is the lemma.
use Rattle.flat_laws.proofs.OneFlat.{one_flat}
use Rattle.flat_laws.proofs.laws.one_flat_design.Goals as goal

pub returns : goal.returns
returns c = one_flat
