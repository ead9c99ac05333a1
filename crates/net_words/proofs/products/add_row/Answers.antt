use Rattle.net_words.specs.Products.{row}
use Rattle.net_words.proofs.BuildLemmas.{all_left, next, fault, last}
use Rattle.net_words.proofs.products.add_row.Goals as goal

pub returns-in_err-part-clause-builds : goal.returns-in_err-part-clause-builds
unfolding row
returns-in_err-part-clause-builds c =
    fault _ _ (all_left (row c.args.low c.args.places c.args.bit c.args.total.now c.args.a.now) c.args.net.now)
    (rw (c.as_slice.ensures.value, c.as_slice-2.ensures.value, c.in_ok-moved.ensures.items, c.in_ok-mask.ensures.items) at c.in_err-part.ensures.builds) c.from_residual-in_err-part.ensures

pub returns-clause-builds : goal.returns-clause-builds
unfolding row
returns-clause-builds c =
    last
    (next _ _ (all_left (row c.args.low c.args.places c.args.bit c.args.total.now c.args.a.now) c.args.net.now)
    (rw (c.as_slice.ensures.value, c.as_slice-2.ensures.value, c.in_ok-moved.ensures.items, c.in_ok-mask.ensures.items) at c.in_ok-part.ensures.builds))
    (rw c.as_slice-3.ensures.value at c.sum.ensures.builds)
