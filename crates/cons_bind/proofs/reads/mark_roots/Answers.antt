-- Each node is looked at.
use Rattle.std.proofs.Common.{◌+◌, List, Bool, subst, sym, arith}
use Rattle.cons_bind.specs.Names.{net_of}
use Rattle.cons_bind.proofs.ReadsLemmas.{RootBelow, roots_all, roots_more, roots_skip, not_source}
use Rattle.cons_bind.specs.Reading.{Adds}
use Rattle.cons_bind.proofs.reads.mark_roots.Goals as goal
use Rattle.cons_bind.proofs.reads.mark_roots.Goals.{in-Source, in_default}

pub mark_flop-requires-clause-source : goal.mark_flop-requires-clause-source
mark_flop-requires-clause-source g c = c.nodes-n-end.ensures.lawful.lower _ _ (rw c.in-Source.is at c.gate_at.ensures)

pub returns : goal.returns
returns g c =
    roots_all (net_of (g.V.View.gates c.args.view.now) (g.V.FlopNet.names c.args.view.now) (g.V.FlopNet.kinds c.args.view.now) (g.V.FlopNet.named_bits c.args.view.now)) (g.V.View.source_count c.args.view.now) c.nodes.n c.args.marks.now c.nodes.marks
    c.nodes-n-end.ensures.lawful c.bits-bits.ensures.lawful.each_kind (omega arith) c.nodes.invariant

pub nodes-preserved : goal.nodes-preserved
nodes-preserved g c =
    let gates = g.V.View.gates c.args.view.now in
    let kinds = g.V.FlopNet.kinds c.args.view.now in
    let Done : List Bool → Type 0 = λ marks. Adds (RootBelow gates kinds (c.nodes.n + 1)) c.args.marks.now marks in
    elim c.match-gate_at.branch [
      | in-Source w ↦ subst Done (sym w.marks-is) (roots_more gates kinds c.nodes.n (g.V.View.source_number w.in-Source.source) c.args.marks.now c.nodes.marks _ (rw w.in-Source.is at c.gate_at.ensures) c.nodes.invariant w.mark_flop.ensures)
      | in_default w ↦ subst Done (sym w.marks-is) (roots_skip gates kinds c.nodes.n c.args.marks.now c.nodes.marks (not_source g.V.View.node_number g.V.View.source_number gates c.nodes.n c.gate_at.result c.gate_at.ensures w.in_default.not-Source) c.nodes.invariant)
    ]
