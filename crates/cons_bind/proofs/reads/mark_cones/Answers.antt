-- Each marked node has its fan-ins marked.
use Rattle.std.proofs.Common.{◌≡◌, ◌+◌, ◌-◌, subst, arith}
use Rattle.cons_bind.proofs.ReadsLemmas.{Closed, closed_none, closed_more, closed_skip, closed_all, reads_within}
use Rattle.cons_bind.proofs.reads.mark_cones.Goals as goal

pub nodes-init : goal.nodes-init
nodes-init g c = record { closed = closed_none (g.V.View.gates c.args.view.now) c.args.marks.now c.nodes-n.result (omega arith); within = omega arith }

pub mark_fan_ins-requires-clause-reads : goal.mark_fan_ins-requires-clause-reads
mark_fan_ins-requires-clause-reads g c = reads_within (g.V.View.gates c.args.view.now) (g.V.View.source_count c.args.view.now) (c.nodes.n - 1) _ c.nodes-n.ensures.lawful c.gate_at.ensures

pub nodes-preserved-then-marks-n : goal.nodes-preserved-then-marks-n
nodes-preserved-then-marks-n g c =
    let gates = g.V.View.gates c.args.view.now in
    let whole : c.nodes.n ≡ c.nodes.n - 1 + 1 = omega arith in
    let before = subst (λ n. Closed gates c.args.marks.now c.nodes.marks n) whole c.nodes.invariant.closed in
    record {
      closed = closed_more gates (g.V.View.source_count c.args.view.now) c.args.marks.now c.nodes.marks c.mark_fan_ins.new.marks (c.nodes.n - 1) _ c.nodes-n.ensures.lawful c.gate_at.ensures c.if-marks-n.true before c.mark_fan_ins.ensures;
      within = omega arith;
    }

pub nodes-preserved : goal.nodes-preserved
nodes-preserved g c =
    let gates = g.V.View.gates c.args.view.now in
    let whole : c.nodes.n ≡ c.nodes.n - 1 + 1 = omega arith in
    let before = subst (λ n. Closed gates c.args.marks.now c.nodes.marks n) whole c.nodes.invariant.closed in
    record { closed = closed_skip gates c.args.marks.now c.nodes.marks (c.nodes.n - 1) c.if-marks-n.false before; within = omega arith }

pub returns : goal.returns
returns g c =
    let gates = g.V.View.gates c.args.view.now in
    let none : c.nodes.n ≡ 0 = omega arith in
    closed_all gates c.args.marks.now c.nodes.marks c.nodes.auto.marks (subst (λ n. Closed gates c.args.marks.now c.nodes.marks n) none c.nodes.invariant.closed)
