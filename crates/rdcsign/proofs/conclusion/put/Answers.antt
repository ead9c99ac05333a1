use Rattle.rdcsign.proofs.PutsLemmas.{puts_from_result}
use Rattle.rdcsign.proofs.conclusion.put.Goals as goal

pub returns-clause-puts : goal.returns-clause-puts
returns-clause-puts g c = rw c.is_ok.ensures.value (puts_from_result _ c.write_all_of.result _ _ _ _ c.write_all_of.ensures.value c.write_all_of.ensures.only_err)
