use Rattle.std.proofs.Common.{◌<◌, ℕ, length, arith, subst}
use Rattle.net_view.specs.View.{IsGateAt, renumbered}
use Rattle.net_view.specs.Values.{at}
use Rattle.net_view.proofs.ValuesLemmas.{reads_more, valued_more, valued_all, raised_values}
use Rattle.net_view.proofs.evaluation.eval_into.Goals as goal

pub gate_of-requires-clause-reads : goal.gate_of-requires-clause-reads
gate_of-requires-clause-reads g c =
    let gates = g.V.View.gates c.args.view.now in
    let count = g.V.View.source_count c.args.view.now in
    let at_n = c.in-Some.ensures in
    reads_more (λ j. j < g.V.View.node_number c.in-Some.node) (λ s. s < count) (λ j. j < length gates) (λ s. s < count) _
    (λ j below. omega (arith, at_n.0, at_n.1)) (λ s below. below) (c.nodes-n-end.ensures.lawful.lower _ _ c.gate.ensures)

pub nodes-preserved : goal.nodes-preserved
nodes-preserved g c =
    let gates = g.V.View.gates c.args.view.now in
    let at_n = c.in-Some.ensures in
    let is : IsGateAt gates c.nodes.n (renumbered g.V.View.node_number g.V.View.source_number c.gate.result) = subst (λ (i : ℕ). IsGateAt gates i (renumbered g.V.View.node_number g.V.View.source_number c.gate.result)) at_n.1 c.gate.ensures in
    valued_more gates (g.V.View.source_count c.args.view.now) (at c.args.sources.now) c.nodes.buf c.nodes.n c.gate_of.result _ c.nodes-n-end.ensures.lawful
    (omega (arith, at_n.0, c.requires.nodes_fit, c.nodes.auto.buf)) is c.gate_of.ensures c.nodes.invariant

pub returns-clause-value : goal.returns-clause-value
returns-clause-value g c =
    valued_all (g.V.View.gates c.args.view.now) (at c.args.sources.now) c.nodes.buf c.nodes.n (omega arith) (omega arith) c.nodes.invariant

pub returns-clause-raised : goal.returns-clause-raised
returns-clause-raised g c =
    λ high values up valued.
    raised_values (g.V.View.gates c.args.view.now) (g.V.View.source_count c.args.view.now) (at c.args.sources.now) high c.nodes.buf values c.nodes-n-end.ensures.lawful up
    (valued_all (g.V.View.gates c.args.view.now) (at c.args.sources.now) c.nodes.buf c.nodes.n (omega arith) (omega arith) c.nodes.invariant) valued
