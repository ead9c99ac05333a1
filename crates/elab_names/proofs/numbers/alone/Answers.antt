-- The fault of the value, as one of elaboration.
use Rattle.vlog_const.specs.Names.{Values}
use Rattle.vlog_const.specs.Constants.{value_of}
use Rattle.elab_names.proofs.AnswerLemmas.{alone-err}
use Rattle.elab_names.proofs.numbers.alone.Goals as goal

pub returns-clause-value : goal.returns-clause-value
returns-clause-value c = alone-err (λ (values : Values). value_of values c.args.e.now) _ c.in-Err.cause c.from.result c.new.ensures c.from.ensures c.in-Err.ensures.value
