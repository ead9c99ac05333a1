use Rattle.net_procs.proofs.StrokeSteps.{starts_more, starts_end}
use Rattle.net_procs.proofs.strokes.onto_starts.Goals as goal

pub loop-i-preserved : goal.loop-i-preserved
loop-i-preserved c =
    let s = c.args.select in
    starts_more c.args.hits.now s.range c.args.bits.now s.width c.loop-i.i c.args.word.now c.index-hits-i.result c.loop-i.strokes.items _ _ c.loop-i-test.true c.index-hits-i.is c.in_ok-put_hit.ensures.items c.loop-i.invariant

pub returns-clause-items : goal.returns-clause-items
returns-clause-items c =
    let s = c.args.select in
    starts_end c.args.hits.now s.range c.args.bits.now s.width c.loop-i.i c.args.word.now c.loop-i.strokes.items _ c.loop-i-test.false c.loop-i.invariant
