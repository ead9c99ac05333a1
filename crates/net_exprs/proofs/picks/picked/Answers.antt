use Rattle.design_form.specs.Extents.{shape_of}
use Rattle.net_words.proofs.BuildLemmas.{all_left, next, fault, last}
use Rattle.net_exprs.specs.Selects.{picked_of}
use Rattle.net_exprs.proofs.picks.picked.Goals as goal

pub returns-in_err-hits-clause-builds : goal.returns-in_err-hits-clause-builds
unfolding picked_of
returns-in_err-hits-clause-builds c =
    fault _ _ (all_left (picked_of c.args.select.part c.args.select.range c.args.word.now c.args.select.width (shape_of c.args.extent) c.args.index.now) c.args.net.now) c.in_err-hits.ensures.builds c.from_residual.ensures

pub returns-clause-builds : goal.returns-clause-builds
unfolding picked_of
returns-clause-builds c =
    last (next _ _ (all_left (picked_of c.args.select.part c.args.select.range c.args.word.now c.args.select.width (shape_of c.args.extent) c.args.index.now) c.args.net.now) c.in_ok-hits.ensures.builds)
    (rw c.as_slice.ensures.value at c.picked_bits.ensures.builds)
