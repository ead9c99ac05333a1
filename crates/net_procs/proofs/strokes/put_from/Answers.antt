use Rattle.net_procs.proofs.StrokeSteps.{from_more, from_end}
use Rattle.net_procs.proofs.strokes.put_from.Goals as goal

pub loop-j-preserved : goal.loop-j-preserved
loop-j-preserved c =
    let s = c.args.select in
    from_more c.args.hit.now s.range c.args.bits.now s.width c.args.start c.loop-j.j c.args.word.now c.index-word-j.result c.reached.result c.loop-j.strokes.items _ _ c.loop-j-test.true c.index-word-j.is c.reached.ensures c.in_ok-put_onto.ensures.items c.loop-j.invariant

pub returns-clause-items : goal.returns-clause-items
returns-clause-items c =
    let s = c.args.select in
    from_end c.args.hit.now s.range c.args.bits.now s.width c.args.start c.loop-j.j c.args.word.now c.loop-j.strokes.items _ c.loop-j-test.false c.loop-j.invariant
