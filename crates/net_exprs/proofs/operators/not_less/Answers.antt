use Rattle.net_words.proofs.BuildLemmas.{all_left, next, fault, last}
use Rattle.net_exprs.specs.Operators.{less, not_after}
use Rattle.net_exprs.proofs.operators.not_less.Goals as goal

pub returns-in_err-found-clause-builds : goal.returns-in_err-found-clause-builds
unfolding not_after
returns-in_err-found-clause-builds c = fault _ _ (all_left (not_after (less c.args.signed c.args.a.now c.args.b.now)) c.args.net.now) c.in_err-found.ensures.builds c.from_residual.ensures

pub returns-clause-builds : goal.returns-clause-builds
unfolding not_after
returns-clause-builds c = last (next _ _ (all_left (not_after (less c.args.signed c.args.a.now c.args.b.now)) c.args.net.now) c.in_ok-found.ensures.builds) c.put.ensures.builds
