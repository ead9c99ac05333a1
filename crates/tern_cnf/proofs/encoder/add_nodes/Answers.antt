-- The clauses of what is left shrink by those of each node.
use Rattle.std.proofs.Common.{arith}
use Rattle.tern_cnf.proofs.GrownLemmas.{node_written, nodes_written, mark_is}
use Rattle.tern_cnf.proofs.encoder.add_nodes.Goals as goal

pub nodes-preserved : goal.nodes-preserved
nodes-preserved g c =
    node_written c.args.fixed.now (g.V.View.gates c.args.view.now) c.nodes.n c.gate_at.result c.index.result.now c.nodes.out c.add_node.new.out _ c.gate_at.ensures.at
    (mark_is c.in_ok-marks.marks.items c.args.fixed.now c.nodes-nodes.result c.nodes.n c.index.result.now c.in_ok-marks.ensures c.nodes-test.true c.index.ensures) c.in_ok-add_node.ensures
    c.nodes.invariant

pub returns : goal.returns
returns g c = nodes_written c.args.fixed.now (g.V.View.gates c.args.view.now) c.nodes.n c.nodes.out _ (omega arith) c.nodes.invariant
