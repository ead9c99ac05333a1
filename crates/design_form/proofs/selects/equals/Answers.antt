use Rattle.std.proofs.Common.{arith}
use Rattle.design_form.proofs.SelectLemmas.{equal-more, equal-end}
use Rattle.design_form.proofs.selects.equals.Goals as goal

pub loop-i-preserved : goal.loop-i-preserved
loop-i-preserved c = rw (c.and-equal.ensures, c.not.ensures, c.xor.ensures, c.low_bit.ensures, c.halved-left.ensures) (equal-more _ c.args.index.now c.loop-i.left c.loop-i.i _ _ (omega arith) c.loop-i.invariant)

pub returns : goal.returns
returns c = equal-end _ c.args.index.now c.loop-i.left c.loop-i.i _ (omega arith) c.loop-i.invariant
