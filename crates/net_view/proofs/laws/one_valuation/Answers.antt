use Rattle.net_view.proofs.ValuesLemmas.{values_valued, valuation_is}
use Rattle.net_view.proofs.laws.one_valuation.Goals as goal

pub returns-clause-there_is_one : goal.returns-clause-there_is_one
returns-clause-there_is_one c = λ gates sources state net. values_valued gates sources state net

pub returns-clause-no_other : goal.returns-clause-no_other
returns-clause-no_other c = λ gates sources state found net valued. valuation_is gates sources state found net valued
