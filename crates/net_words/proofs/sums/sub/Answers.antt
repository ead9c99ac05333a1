use Rattle.net_words.specs.Sums.{sub}
use Rattle.net_words.proofs.BuildLemmas.{all_left, next, fault, last}
use Rattle.net_words.proofs.sums.sub.Goals as goal

pub returns-in_err-other-clause-builds : goal.returns-in_err-other-clause-builds
unfolding sub
returns-in_err-other-clause-builds c = fault _ _ (all_left (sub c.args.a.now c.args.b.now) c.args.net.now) c.in_err-other.ensures.builds c.from_residual.ensures

pub returns-in_err-carry-clause-builds : goal.returns-in_err-carry-clause-builds
unfolding sub
returns-in_err-carry-clause-builds c =
    fault _ _ (next _ _ (all_left (sub c.args.a.now c.args.b.now) c.args.net.now) c.in_ok-other.ensures.builds) c.in_err-carry.ensures.builds c.from_residual-in_err-carry.ensures

pub returns-clause-builds : goal.returns-clause-builds
unfolding sub
returns-clause-builds c =
    last (next _ _ (next _ _ (all_left (sub c.args.a.now c.args.b.now) c.args.net.now) c.in_ok-other.ensures.builds) c.in_ok-carry.ensures.builds) (rw c.as_slice.ensures.value at c.sum.ensures.builds)
