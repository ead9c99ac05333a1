use Rattle.std.proofs.Common.{arith}
use Rattle.proc_values.proofs.HitLemmas.{equal_more}
use Rattle.proc_values.specs.Starts.{above, under}
use Rattle.design_form.specs.Selects.{difference}
use Rattle.design_form.proofs.SelectLemmas.{equal-end}
use Rattle.proc_values.proofs.hits.equals.Goals as goal

pub loop-i-preserved : goal.loop-i-preserved
loop-i-preserved c = rw (c.and-equal.ensures, c.not.ensures, c.xor.ensures, c.low_bit.ensures) (equal_more _ c.args.index.now c.args.below c.loop-i.left c.loop-i.i _ _ (omega arith) c.loop-i.invariant)

pub returns : goal.returns
returns c = equal-end _ c.args.index.now (difference (above c.args.below c.loop-i.left) (under c.args.below c.loop-i.left)) c.loop-i.i _ (omega arith) c.loop-i.invariant
