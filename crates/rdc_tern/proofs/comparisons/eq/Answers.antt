use Rattle.std.proofs.Common.{arith}
use Rattle.rdc_tern.proofs.WordSteps.{eq_more, eq_whole}
use Rattle.rdc_tern.proofs.comparisons.eq.Goals as goal

pub loop-i-preserved : goal.loop-i-preserved
loop-i-preserved c = rw (c.and-equal.ensures, c.not.ensures, c.xor.ensures) (eq_more _ c.args.a.now c.args.b.now c.loop-i.i _ _ _ (omega arith) (omega arith) c.loop-i.invariant)

pub returns : goal.returns
returns c = eq_whole _ c.args.a.now c.args.b.now c.loop-i.i _ (omega arith) c.loop-i.invariant
