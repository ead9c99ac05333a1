use Rattle.std.proofs.Common.{arith, length, ◌<◌, ◌^◌}
use Rattle.design_form.specs.Signals.{lowest, width_of}
use Rattle.proc_values.proofs.StrokeLemmas.{nothing_far}
use Rattle.proc_values.proofs.strokes.put_fixed.Goals as goal

pub returns-then-index : goal.returns-then-index
returns-then-index c =
    let s = c.args.select in
    nothing_far s.part s.range c.args.bits.now s.width c.args.index c.args.word.now c.args.strokes.now.items c.if-index.true c.requires (omega (arith, c.type_inv.bits)) (omega (arith, c.width-width.ensures, c.width-width.auto)) (omega (arith, c.lowest-lowest.ensures, c.lowest-lowest.auto))
