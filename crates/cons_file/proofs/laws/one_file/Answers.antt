-- The laws are the lemmas.
use Rattle.cons_file.proofs.FormsLemmas.{one_form}
use Rattle.cons_file.proofs.FileLemmas.{one_list}
use Rattle.cons_file.proofs.laws.one_file.Goals as goal

pub returns-clause-form : goal.returns-clause-form
returns-clause-form c = one_form

pub returns-clause-lines : goal.returns-clause-lines
returns-clause-lines c = one_list
