use Rattle.std.proofs.Common.{arith, ◌∙◌}
use Rattle.net_procs.proofs.StrokeSteps.{nothing_far}
use Rattle.net_procs.proofs.strokes.onto_fixed.Goals as goal

pub returns-then-index-clause-items : goal.returns-then-index-clause-items
returns-then-index-clause-items c =
    let s = c.args.select in
    c.new-strokes.ensures.items
    ∙ nothing_far s.part s.range c.args.bits.now s.width c.args.index c.args.word.now c.if-index.true c.requires (omega (arith, c.type_inv.bits)) (omega (arith, c.width-width.ensures, c.width-width.auto)) (omega (arith, c.lowest-lowest.ensures, c.lowest-lowest.auto))
