-- The fault of the value, as one of elaboration.
use Rattle.vlog_const.specs.Names.{Values}
use Rattle.vlog_const.specs.Constants.{value_within}
use Rattle.elab_names.proofs.AnswerLemmas.{alone-err}
use Rattle.elab_names.proofs.expressions.within.Goals as goal

pub returns-clause-value : goal.returns-clause-value
returns-clause-value c = alone-err (λ (values : Values). value_within values c.args.width c.args.e.now) _ c.in-Err.cause c.from.result c.new.ensures c.from.ensures c.in-Err.ensures.value
