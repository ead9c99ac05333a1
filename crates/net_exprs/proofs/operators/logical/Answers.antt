use Rattle.net_words.proofs.BuildLemmas.{all_left, next, fault, last}
use Rattle.net_exprs.specs.Operators.{logical}
use Rattle.net_exprs.proofs.operators.logical.Goals as goal

pub returns-in_err-x-clause-builds : goal.returns-in_err-x-clause-builds
unfolding logical
returns-in_err-x-clause-builds c = fault _ _ (all_left (logical c.args.op c.args.a.now c.args.b.now) c.args.net.now) c.in_err-x.ensures.builds c.from_residual.ensures

pub returns-in_err-y-clause-builds : goal.returns-in_err-y-clause-builds
unfolding logical
returns-in_err-y-clause-builds c = fault _ _ (next _ _ (all_left (logical c.args.op c.args.a.now c.args.b.now) c.args.net.now) c.in_ok-x.ensures.builds) c.in_err-y.ensures.builds c.from_residual-in_err-y.ensures

pub returns-clause-builds : goal.returns-clause-builds
unfolding logical
returns-clause-builds c = last (next _ _ (next _ _ (all_left (logical c.args.op c.args.a.now c.args.b.now) c.args.net.now) c.in_ok-x.ensures.builds) c.in_ok-y.ensures.builds) c.bit.ensures.builds
