use Rattle.net_words.specs.Bits.{xnor}
use Rattle.net_words.proofs.BuildLemmas.{all_left, next, last, fault}
use Rattle.net_words.proofs.bits.xnor.Goals as goal

pub returns-in_err-differs-clause-builds : goal.returns-in_err-differs-clause-builds
unfolding xnor
returns-in_err-differs-clause-builds c = fault _ _ (all_left (xnor c.args.a c.args.b) c.args.net.now) c.in_err-differs.ensures.builds c.from_residual.ensures

pub returns-clause-builds : goal.returns-clause-builds
unfolding xnor
returns-clause-builds c = last (next _ _ (all_left (xnor c.args.a c.args.b) c.args.net.now) c.in_ok-differs.ensures.builds) c.put-2.ensures.builds
