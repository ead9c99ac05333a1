use Rattle.net_words.proofs.BuildLemmas.{all_left, next, last, fault}
use Rattle.net_procs.specs.Labels.{same}
use Rattle.net_procs.proofs.labels.same.Goals as goal

pub returns-in_err-bits-clause-builds : goal.returns-in_err-bits-clause-builds
unfolding same
returns-in_err-bits-clause-builds c = fault _ _ (all_left (same c.args.free.now c.args.x.now c.args.y.now) c.args.net.now) c.in_err-bits.ensures.builds c.from_residual.ensures

pub returns-clause-builds : goal.returns-clause-builds
unfolding same
returns-clause-builds c = last (next _ _ (all_left (same c.args.free.now c.args.x.now c.args.y.now) c.args.net.now) c.in_ok-bits.ensures.builds) (rw c.as_slice.ensures.value at c.all.ensures.builds)
