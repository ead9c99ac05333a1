use Rattle.net_words.specs.Sums.{add}
use Rattle.net_words.proofs.BuildLemmas.{all_left, next, fault, last}
use Rattle.net_words.proofs.WordSteps.{still_there}
use Rattle.net_words.proofs.sums.add.Goals as goal

pub sum-requires-clause-a : goal.sum-requires-clause-a
sum-requires-clause-a c = still_there c.args.net.now c.put.new.net c.args.a.now c.requires.a c.in_ok-carry.ensures.longer

pub sum-requires-clause-b : goal.sum-requires-clause-b
sum-requires-clause-b c = still_there c.args.net.now c.put.new.net c.args.b.now c.requires.b c.in_ok-carry.ensures.longer

pub returns-in_err-carry-clause-builds : goal.returns-in_err-carry-clause-builds
unfolding add
returns-in_err-carry-clause-builds c = fault _ _ (all_left (add c.args.a.now c.args.b.now) c.args.net.now) c.in_err-carry.ensures.builds c.from_residual.ensures

pub returns-clause-builds : goal.returns-clause-builds
unfolding add
returns-clause-builds c = last (next _ _ (all_left (add c.args.a.now c.args.b.now) c.args.net.now) c.in_ok-carry.ensures.builds) c.sum.ensures.builds
