use Rattle.net_exprs.proofs.ExprWorths.{words_are_worth}
use Rattle.net_exprs.proofs.laws.expressions_are_worth.Goals as goal

pub returns : goal.returns
returns c = words_are_worth
