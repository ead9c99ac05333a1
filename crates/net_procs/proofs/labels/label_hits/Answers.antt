use Rattle.std.proofs.Common.{◌<◌, length, arith, le_trans}
use Rattle.std.proofs.lemmas.List.Elements.{All-nil}
use Rattle.design_form.specs.Extents.{shape_of}
use Rattle.net_words.proofs.BuildLemmas.{no_bits, next, fault, done}
use Rattle.net_words.proofs.WordSteps.{one_more, still_there}
use Rattle.net_procs.specs.Labels.{label_hits}
use Rattle.net_procs.proofs.FitSteps.{choice_later}
use Rattle.net_procs.proofs.LabelSteps.{hits_here, hits_whole}
use Rattle.net_procs.proofs.labels.label_hits.Goals as goal

pub loop-i-init : goal.loop-i-init
loop-i-init c =
    let choice = c.args.choice.now in
    rw c.new-hits.ensures.items (record {
      left = no_bits (label_hits c.args.design.now c.args.nodes.now choice.how (shape_of choice.context) choice.word.items c.args.labels.now) c.args.net.now;
      there = All-nil (λ n. n < length c.args.net.now);
      longer = omega arith;
    })

pub label_hit-requires-clause-nodes : goal.label_hit-requires-clause-nodes
label_hit-requires-clause-nodes c = still_there c.args.net.now c.loop-i.net c.args.nodes.now c.requires.nodes c.loop-i.invariant.longer

pub label_hit-requires-clause-choice : goal.label_hit-requires-clause-choice
label_hit-requires-clause-choice c = choice_later c.args.net.now c.loop-i.net c.args.choice.now c.requires.choice c.loop-i.invariant.longer

pub returns-in_err-hit-clause-builds : goal.returns-in_err-hit-clause-builds
returns-in_err-hit-clause-builds c =
    let choice = c.args.choice.now in
    fault _ _
    (hits_here c.args.design.now c.args.nodes.now choice.how (shape_of choice.context) choice.word.items c.args.labels.now c.loop-i.i c.index-labels-i.result c.loop-i.hits.items c.loop-i-test.true c.index-labels-i.is c.loop-i.invariant.left)
    c.in_err-hit.ensures.builds c.from_residual.ensures

pub loop-i-preserved : goal.loop-i-preserved
loop-i-preserved c =
    let choice = c.args.choice.now in
    rw c.in_ok-push.ensures.items (record {
      left =
          next _ _
          (hits_here c.args.design.now c.args.nodes.now choice.how (shape_of choice.context) choice.word.items c.args.labels.now c.loop-i.i c.index-labels-i.result c.loop-i.hits.items c.loop-i-test.true c.index-labels-i.is c.loop-i.invariant.left)
          c.in_ok-hit.ensures.builds;
      there = one_more c.loop-i.net c.label_hit.new.net c.loop-i.hits.items c.in_ok-hit.hit c.loop-i.invariant.there c.in_ok-hit.ensures.longer c.in_ok-hit.ensures.inside;
      longer = le_trans c.loop-i.invariant.longer c.in_ok-hit.ensures.longer;
    })

pub returns-clause-builds : goal.returns-clause-builds
returns-clause-builds c =
    let choice = c.args.choice.now in
    done (λ w. w.items) c.loop-i.hits
    (hits_whole c.args.design.now c.args.nodes.now choice.how (shape_of choice.context) choice.word.items c.args.labels.now c.loop-i.i c.loop-i.hits.items c.loop-i-test.false c.loop-i.invariant.left)
