use Rattle.elab_binds.proofs.MeaningLemmas.{by_places}
use Rattle.elab_binds.proofs.laws.names_mean_by_places.Goals as goal

pub returns : goal.returns
returns c = by_places
