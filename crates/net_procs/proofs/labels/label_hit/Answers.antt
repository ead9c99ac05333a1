use Rattle.net_words.proofs.BuildLemmas.{all_left, next, last, fault}
use Rattle.design_form.specs.Extents.{shape_of}
use Rattle.net_procs.specs.Labels.{label_hit}
use Rattle.net_procs.proofs.labels.label_hit.Goals as goal

pub returns-in_err-word-clause-builds : goal.returns-in_err-word-clause-builds
unfolding label_hit
returns-in_err-word-clause-builds c =
    let choice = c.args.choice.now in
    fault _ _ (all_left (label_hit c.args.design.now c.args.nodes.now choice.how (shape_of choice.context) choice.word.items c.args.label.now) c.args.net.now) c.in_err-word.ensures.builds c.from_residual-in_err-word.ensures

pub returns-clause-builds : goal.returns-clause-builds
unfolding label_hit
returns-clause-builds c =
    let choice = c.args.choice.now in
    last
    (next _ _ (all_left (label_hit c.args.design.now c.args.nodes.now choice.how (shape_of choice.context) choice.word.items c.args.label.now) c.args.net.now) c.in_ok-word.ensures.builds)
    (rw (c.as_slice-selector.ensures.value, c.as_slice-2.ensures.value, c.as_slice.ensures.value, c.in_ok-free.ensures.value) at c.same.ensures.builds)
