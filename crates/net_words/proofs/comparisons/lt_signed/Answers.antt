use Rattle.net_words.specs.Comparisons.{lt_signed}
use Rattle.net_words.proofs.BuildLemmas.{all_left, next, fault, last}
use Rattle.net_words.proofs.comparisons.lt_signed.Goals as goal

pub returns-in_err-left-clause-builds : goal.returns-in_err-left-clause-builds
unfolding lt_signed
returns-in_err-left-clause-builds c = fault _ _ (all_left (lt_signed c.args.a.now c.args.b.now) c.args.net.now) c.in_err-left.ensures.builds c.from_residual.ensures

pub returns-in_err-right-clause-builds : goal.returns-in_err-right-clause-builds
unfolding lt_signed
returns-in_err-right-clause-builds c =
    fault _ _ (next _ _ (all_left (lt_signed c.args.a.now c.args.b.now) c.args.net.now) c.in_ok-left.ensures.builds) c.in_err-right.ensures.builds c.from_residual-in_err-right.ensures

pub returns-clause-builds : goal.returns-clause-builds
unfolding lt_signed
returns-clause-builds c =
    last (next _ _ (next _ _ (all_left (lt_signed c.args.a.now c.args.b.now) c.args.net.now) c.in_ok-left.ensures.builds) c.in_ok-right.ensures.builds)
    (rw (c.as_slice.ensures.value, c.as_slice-2.ensures.value) at c.lt.ensures.builds)
