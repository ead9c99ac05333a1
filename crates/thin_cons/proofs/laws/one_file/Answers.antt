-- The law is the lemma.
use Rattle.thin_cons.proofs.FormsLemmas.{one_file as one_list_of}
use Rattle.thin_cons.proofs.laws.one_file.Goals as goal

pub returns : goal.returns
returns c = one_list_of
