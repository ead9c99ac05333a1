-- The law is the lemma.
use Rattle.thin_cons.proofs.Declared.{one_declaration as one_list_of}
use Rattle.thin_cons.proofs.laws.one_declaration.Goals as goal

pub returns : goal.returns
returns c = one_list_of
