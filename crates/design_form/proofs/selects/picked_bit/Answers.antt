use Rattle.std.proofs.Common.{drop, sym, ◌∙◌, arith}
use Rattle.std.proofs.lemmas.List.{length-drop}
use Rattle.design_form.proofs.SelectLemmas.{found-more, nothing_left}
use Rattle.design_form.proofs.selects.picked_bit.Goals as goal

pub loop-number-preserved : goal.loop-number-preserved
loop-number-preserved c = rw (c.or-found.ensures, c.and.ensures, c.reached.ensures) (found-more _ c.args.hits.now c.args.select.range c.args.word.now c.args.select.width c.loop-number.number c.args.place _ _ (omega arith) c.loop-number.invariant)

pub returns : goal.returns
returns c =
    sym (nothing_left c.loop-number.found (drop c.loop-number.number c.args.hits.now) c.args.select.range c.args.word.now c.args.select.width c.loop-number.number c.args.place (omega (arith, length-drop c.loop-number.number c.args.hits.now)))
    ∙ c.loop-number.invariant
