use Rattle.std.proofs.Common.{arith, ◌≤◌, min, length}
use Rattle.net_procs.proofs.StrokeSteps.{all_more, all_end}
use Rattle.net_procs.proofs.strokes.onto_all.Goals as goal

pub loop-i-preserved : goal.loop-i-preserved
loop-i-preserved c =
    all_more c.args.bits.now c.args.word.now c.loop-i.i _ c.index-word-i.result c.loop-i.strokes.items _ _ (omega (arith, c.min-i-end.ensures, c.loop-i-test.true)) (omega (arith, c.min-i-end.ensures, c.loop-i-test.true)) c.index-word-i.is c.in_ok-push.ensures.items c.loop-i.invariant

pub returns-clause-items : goal.returns-clause-items
returns-clause-items c =
    let past : min (length c.args.bits.now) (length c.args.word.now) ≤ c.loop-i.i = omega (arith, c.min-i-end.ensures, c.loop-i-test.false) in
    all_end c.args.bits.now c.args.word.now c.loop-i.i c.loop-i.strokes.items _ past c.loop-i.invariant
