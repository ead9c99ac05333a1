use Rattle.std.proofs.Common.{arith, refl}
use Rattle.proc_values.proofs.ChangeLemmas.{struck_more, struck_end, moves_on, moves_not}
use Rattle.proc_values.proofs.changes.strike_all.Goals as goal

pub loop-i-init : goal.loop-i-init
loop-i-init c = record { left = refl; moves = moves_not c.args.bits.now c.args.state.now }

pub loop-i-preserved : goal.loop-i-preserved
loop-i-preserved c = record {
  left = struck_more c.args.bits.now c.args.strokes.now c.loop-i.state c.strike.new.state _ c.loop-i.i _ c.loop-i-test.true c.strike.ensures.value c.loop-i.invariant.left;
  moves = moves_on c.args.bits.now c.args.state.now c.loop-i.state c.strike.new.state c.loop-i.invariant.moves c.strike.ensures.moves;
}

pub returns-clause-value : goal.returns-clause-value
returns-clause-value c = struck_end c.args.bits.now c.args.strokes.now c.loop-i.state _ c.loop-i.i c.loop-i-test.false c.loop-i.invariant.left
