use Rattle.std.proofs.Common.{length}
use Rattle.net_words.proofs.BuildLemmas.{all_left, next, fault, last}
use Rattle.net_exprs.specs.Constants.{start_bits}
use Rattle.net_exprs.specs.Selects.{equals}
use Rattle.net_exprs.proofs.picks.equals.Goals as goal

pub returns-in_err-number-clause-builds : goal.returns-in_err-number-clause-builds
unfolding equals
returns-in_err-number-clause-builds c =
    fault _ _ (all_left (equals c.args.index.now (start_bits c.args.start.below c.args.start.distance (length c.args.index.now))) c.args.net.now) c.in_err-number.ensures.builds c.from_residual.ensures

pub returns-clause-builds : goal.returns-clause-builds
unfolding equals
returns-clause-builds c =
    last (next _ _ (all_left (equals c.args.index.now (start_bits c.args.start.below c.args.start.distance (length c.args.index.now))) c.args.net.now) c.in_ok-number.ensures.builds)
    (rw c.as_slice.ensures.value at c.eq.ensures.builds)
