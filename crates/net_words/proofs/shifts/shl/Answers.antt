use Rattle.net_words.specs.Shifts.{shl}
use Rattle.net_words.proofs.BuildLemmas.{all_left, next, fault, last}
use Rattle.net_words.proofs.WordSteps.{still_there}
use Rattle.net_words.proofs.shifts.shl.Goals as goal

pub shift-requires-clause-word : goal.shift-requires-clause-word
shift-requires-clause-word c = still_there c.args.net.now c.put.new.net c.args.word.now c.requires.word c.in_ok-low.ensures.longer

pub shift-requires-clause-amount : goal.shift-requires-clause-amount
shift-requires-clause-amount c = still_there c.args.net.now c.put.new.net c.args.amount.now c.requires.amount c.in_ok-low.ensures.longer

pub returns-in_err-low-clause-builds : goal.returns-in_err-low-clause-builds
unfolding shl
returns-in_err-low-clause-builds c = fault _ _ (all_left (shl c.args.word.now c.args.amount.now) c.args.net.now) c.in_err-low.ensures.builds c.from_residual.ensures

pub returns-clause-builds : goal.returns-clause-builds
unfolding shl
returns-clause-builds c = last (next _ _ (all_left (shl c.args.word.now c.args.amount.now) c.args.net.now) c.in_ok-low.ensures.builds) c.shift.ensures.builds
