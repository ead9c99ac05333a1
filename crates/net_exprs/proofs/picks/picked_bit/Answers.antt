use Rattle.net_words.proofs.BuildLemmas.{all_left, next, fault, last}
use Rattle.net_exprs.specs.Selects.{picked_bit}
use Rattle.net_exprs.proofs.picks.picked_bit.Goals as goal

pub returns-in_err-found-clause-builds : goal.returns-in_err-found-clause-builds
unfolding picked_bit
returns-in_err-found-clause-builds c =
    fault _ _ (all_left (picked_bit c.args.hits.now c.args.select.range c.args.word.now c.args.select.width c.args.place) c.args.net.now) c.in_err-found.ensures.builds c.from_residual.ensures

pub returns-clause-builds : goal.returns-clause-builds
unfolding picked_bit
returns-clause-builds c =
    last (next _ _ (all_left (picked_bit c.args.hits.now c.args.select.range c.args.word.now c.args.select.width c.args.place) c.args.net.now) c.in_ok-found.ensures.builds)
    (rw c.as_slice.ensures.value at c.any.ensures.builds)
