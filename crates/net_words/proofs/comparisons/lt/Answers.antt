use Rattle.net_words.specs.Comparisons.{lt}
use Rattle.net_words.proofs.BuildLemmas.{all_left, next, fault, last}
use Rattle.net_words.proofs.WordSteps.{still_there}
use Rattle.net_words.proofs.comparisons.lt.Goals as goal

pub lt_from-requires-clause-a : goal.lt_from-requires-clause-a
lt_from-requires-clause-a c = still_there c.args.net.now c.put.new.net c.args.a.now c.requires.a c.in_ok-zero.ensures.longer

pub lt_from-requires-clause-b : goal.lt_from-requires-clause-b
lt_from-requires-clause-b c = still_there c.args.net.now c.put.new.net c.args.b.now c.requires.b c.in_ok-zero.ensures.longer

pub returns-in_err-zero-clause-builds : goal.returns-in_err-zero-clause-builds
unfolding lt
returns-in_err-zero-clause-builds c = fault _ _ (all_left (lt c.args.a.now c.args.b.now) c.args.net.now) c.in_err-zero.ensures.builds c.from_residual.ensures

pub returns-clause-builds : goal.returns-clause-builds
unfolding lt
returns-clause-builds c = last (next _ _ (all_left (lt c.args.a.now c.args.b.now) c.args.net.now) c.in_ok-zero.ensures.builds) c.lt_from.ensures.builds
