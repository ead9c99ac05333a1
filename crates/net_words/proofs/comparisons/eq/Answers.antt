use Rattle.net_words.specs.Comparisons.{eq}
use Rattle.net_words.proofs.BuildLemmas.{all_left, next, fault, last}
use Rattle.net_words.proofs.comparisons.eq.Goals as goal

pub returns-in_err-same-clause-builds : goal.returns-in_err-same-clause-builds
unfolding eq
returns-in_err-same-clause-builds c = fault _ _ (all_left (eq c.args.a.now c.args.b.now) c.args.net.now) c.in_err-same.ensures.builds c.from_residual.ensures

pub returns-clause-builds : goal.returns-clause-builds
unfolding eq
returns-clause-builds c = last (next _ _ (all_left (eq c.args.a.now c.args.b.now) c.args.net.now) c.in_ok-same.ensures.builds) (rw c.as_slice.ensures.value at c.all.ensures.builds)
