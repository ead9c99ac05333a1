use Rattle.net_words.proofs.BuildLemmas.{all_left, next, last, fault}
use Rattle.design_form.specs.Extents.{shape_of}
use Rattle.net_procs.specs.Labels.{any_hit}
use Rattle.net_procs.proofs.labels.any_hit.Goals as goal

pub returns-in_err-hits-clause-builds : goal.returns-in_err-hits-clause-builds
unfolding any_hit
returns-in_err-hits-clause-builds c =
    let choice = c.args.choice.now in
    fault _ _ (all_left (any_hit c.args.design.now c.args.nodes.now choice.how (shape_of choice.context) choice.word.items c.args.labels.now) c.args.net.now) c.in_err-hits.ensures.builds c.from_residual.ensures

pub returns-clause-builds : goal.returns-clause-builds
unfolding any_hit
returns-clause-builds c =
    let choice = c.args.choice.now in
    last
    (next _ _ (all_left (any_hit c.args.design.now c.args.nodes.now choice.how (shape_of choice.context) choice.word.items c.args.labels.now) c.args.net.now) c.in_ok-hits.ensures.builds)
    (rw c.as_slice.ensures.value at c.any.ensures.builds)
