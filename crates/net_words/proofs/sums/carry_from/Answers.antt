use Rattle.net_words.specs.Sums.{carry_from}
use Rattle.net_words.proofs.BuildLemmas.{all_left, next, fault, last}
use Rattle.net_words.proofs.sums.carry_from.Goals as goal

pub returns-in_err-both-clause-builds : goal.returns-in_err-both-clause-builds
unfolding carry_from
returns-in_err-both-clause-builds c = fault _ _ (all_left (carry_from c.args.c c.args.a c.args.b c.args.differs) c.args.net.now) c.in_err-both.ensures.builds c.from_residual.ensures

pub returns-in_err-passed-clause-builds : goal.returns-in_err-passed-clause-builds
unfolding carry_from
returns-in_err-passed-clause-builds c = fault _ _ (next _ _ (all_left (carry_from c.args.c c.args.a c.args.b c.args.differs) c.args.net.now) c.in_ok-both.ensures.builds) c.in_err-passed.ensures.builds c.from_residual-in_err-passed.ensures

pub returns-clause-builds : goal.returns-clause-builds
unfolding carry_from
returns-clause-builds c = last (next _ _ (next _ _ (all_left (carry_from c.args.c c.args.a c.args.b c.args.differs) c.args.net.now) c.in_ok-both.ensures.builds) c.in_ok-passed.ensures.builds) c.put-3.ensures.builds
