use Rattle.std.proofs.Common.{arith}
use Rattle.proc_values.proofs.StrokeLemmas.{from_more, from_end}
use Rattle.proc_values.proofs.strokes.put_from.Goals as goal

pub loop-j-preserved : goal.loop-j-preserved
loop-j-preserved c =
    let s = c.args.select in
    from_more c.args.hit s.range c.args.bits.now s.width c.args.start c.loop-j.j c.args.word.now _ c.reached.result c.loop-j.strokes.items _ _ c.loop-j-test.true c.reached.ensures c.in_ok-put_onto.ensures c.loop-j.invariant

pub returns : goal.returns
returns c =
    let s = c.args.select in
    from_end c.args.hit s.range c.args.bits.now s.width c.args.start c.loop-j.j c.args.word.now c.loop-j.strokes.items _ c.loop-j-test.false c.loop-j.invariant
