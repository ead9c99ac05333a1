use Rattle.std.proofs.Common.{◌∙◌}
use Rattle.std.proofs.lemmas.List.{get_or_default}
use Rattle.net_words.proofs.BuildLemmas.{done, next, fault}
use Rattle.net_procs.proofs.NodeSteps.{always, where_hit}
use Rattle.net_procs.proofs.changes.change_if.Goals as goal

pub returns-in-None-clause-builds : goal.returns-in-None-clause-builds
returns-in-None-clause-builds c = done _ (tt {0}) (rw c.set_node.ensures.nodes (always c.args.net.now c.args.stroke.hit c.args.stroke.bit c.args.stroke.value c.args.nodes.now c.in-None.is))

pub returns-in_err-node-in-Some-clause-builds : goal.returns-in_err-node-in-Some-clause-builds
returns-in_err-node-in-Some-clause-builds c =
    fault _ _
    (where_hit c.args.net.now c.args.stroke.hit _ c.args.stroke.bit c.args.stroke.value c.index-nodes-place.result c.args.nodes.now c.in-Some.is
    (c.index-nodes-place.is ∙ get_or_default c.args.nodes.now c.args.stroke.bit _ _ c.requires.bit)) c.in_err-node-in-Some.ensures.builds c.from_residual.ensures

pub returns-in_ok-node-in-Some-clause-builds : goal.returns-in_ok-node-in-Some-clause-builds
returns-in_ok-node-in-Some-clause-builds c =
    done _ (tt {0})
    (rw c.set_node-in-Some.ensures.nodes
    (next _ _
    (where_hit c.args.net.now c.args.stroke.hit _ c.args.stroke.bit c.args.stroke.value c.index-nodes-place.result c.args.nodes.now c.in-Some.is
    (c.index-nodes-place.is ∙ get_or_default c.args.nodes.now c.args.stroke.bit _ _ c.requires.bit)) c.in_ok-node-in-Some.ensures.builds))
