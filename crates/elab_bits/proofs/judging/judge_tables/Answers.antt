use Rattle.std.proofs.Common.{sym, arith}
use Rattle.design_form.specs.Numbers.{bits_of}
use Rattle.elab_bits.proofs.FirstPlaces.{bit_passes, bit_stops, all_judged}
use Rattle.elab_bits.proofs.judging.judge_tables.Goals as goal

pub returns-in-Err : goal.returns-in-Err
returns-in-Err c = λ ds rs d r. bit_stops (bits_of c.args.design.now.signals) c.args.driven.now c.args.read.now ds rs c.loop-number.number c.in-Some.name.now _ c.in-Err.fault (sym c.in-Some.ensures) d r c.in-Err.ensures (c.loop-number.invariant ds rs d r)

pub loop-number-preserved : goal.loop-number-preserved
loop-number-preserved c = λ ds rs d r. bit_passes (bits_of c.args.design.now.signals) c.args.driven.now c.args.read.now ds rs c.loop-number.number c.in-Some.name.now _ (sym c.in-Some.ensures) d r c.in-Ok.ensures (c.loop-number.invariant ds rs d r)

pub returns : goal.returns
returns c = λ ds rs d r. all_judged (bits_of c.args.design.now.signals) ds rs c.loop-number.number _ (omega arith) (c.loop-number.invariant ds rs d r)
