use Rattle.net_words.specs.Comparisons.{lt_bit}
use Rattle.net_words.proofs.BuildLemmas.{all_left, next, fault, last}
use Rattle.net_words.proofs.comparisons.lt_bit.Goals as goal

pub returns-in_err-other-clause-builds : goal.returns-in_err-other-clause-builds
unfolding lt_bit
returns-in_err-other-clause-builds c = fault _ _ (all_left (lt_bit c.args.so_far c.args.a c.args.b) c.args.net.now) c.in_err-other.ensures.builds c.from_residual.ensures

pub returns-in_err-less-clause-builds : goal.returns-in_err-less-clause-builds
unfolding lt_bit
returns-in_err-less-clause-builds c = fault _ _ (next _ _ (all_left (lt_bit c.args.so_far c.args.a c.args.b) c.args.net.now) c.in_ok-other.ensures.builds) c.in_err-less.ensures.builds c.from_residual-in_err-less.ensures

pub returns-in_err-same-clause-builds : goal.returns-in_err-same-clause-builds
unfolding lt_bit
returns-in_err-same-clause-builds c = fault _ _ (next _ _ (next _ _ (all_left (lt_bit c.args.so_far c.args.a c.args.b) c.args.net.now) c.in_ok-other.ensures.builds) c.in_ok-less.ensures.builds) c.in_err-same.ensures.builds c.from_residual-in_err-same.ensures

pub returns-in_err-kept-clause-builds : goal.returns-in_err-kept-clause-builds
unfolding lt_bit
returns-in_err-kept-clause-builds c = fault _ _ (next _ _ (next _ _ (next _ _ (all_left (lt_bit c.args.so_far c.args.a c.args.b) c.args.net.now) c.in_ok-other.ensures.builds) c.in_ok-less.ensures.builds) c.in_ok-same.ensures.builds) c.in_err-kept.ensures.builds c.from_residual-in_err-kept.ensures

pub returns-clause-builds : goal.returns-clause-builds
unfolding lt_bit
returns-clause-builds c = last (next _ _ (next _ _ (next _ _ (next _ _ (all_left (lt_bit c.args.so_far c.args.a c.args.b) c.args.net.now) c.in_ok-other.ensures.builds) c.in_ok-less.ensures.builds) c.in_ok-same.ensures.builds) c.in_ok-kept.ensures.builds) c.put-4.ensures.builds
