use Rattle.std.proofs.Common.{arith}
use Rattle.proc_values.proofs.StrokeLemmas.{starts_more, starts_end}
use Rattle.proc_values.proofs.strokes.put_starts.Goals as goal

pub loop-i-preserved : goal.loop-i-preserved
loop-i-preserved c =
    let s = c.args.select in
    starts_more c.args.hits.now s.range c.args.bits.now s.width c.loop-i.i c.args.word.now _ c.loop-i.strokes.items _ _ c.loop-i-test.true c.in_ok-put_from.ensures c.loop-i.invariant

pub returns : goal.returns
returns c =
    let s = c.args.select in
    starts_end c.args.hits.now s.range c.args.bits.now s.width c.loop-i.i c.args.word.now c.loop-i.strokes.items _ c.loop-i-test.false c.loop-i.invariant
