use Rattle.design_form.specs.Extents.{shape_of}
use Rattle.net_words.proofs.BuildLemmas.{all_left, next, fault, last}
use Rattle.net_exprs.specs.Operators.{one_bit, reduced}
use Rattle.net_exprs.proofs.operators.reduced_in.Goals as goal

pub returns-in_err-found-clause-builds : goal.returns-in_err-found-clause-builds
unfolding one_bit
returns-in_err-found-clause-builds c = fault _ _ (all_left (one_bit (shape_of c.args.context) (reduced c.args.op c.args.a.now)) c.args.net.now) c.in_err-found.ensures.builds c.from_residual.ensures

pub returns-clause-builds : goal.returns-clause-builds
unfolding one_bit
returns-clause-builds c = last (next _ _ (all_left (one_bit (shape_of c.args.context) (reduced c.args.op c.args.a.now)) c.args.net.now) c.in_ok-found.ensures.builds) c.one_bit.ensures.builds
