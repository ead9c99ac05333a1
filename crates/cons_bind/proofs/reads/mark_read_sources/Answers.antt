-- Each marked node is looked at.
use Rattle.std.proofs.Common.{◌+◌, List, Bool, subst, sym, arith}
use Rattle.cons_bind.specs.Marks.{Marks}
use Rattle.cons_bind.specs.Names.{net_of}
use Rattle.cons_bind.proofs.ReadsLemmas.{MarkedBelow, reads_within, marked_start, marked_more, marked_skip, marked_all}
use Rattle.cons_bind.proofs.reads.mark_read_sources.Goals as goal
use Rattle.cons_bind.proofs.reads.mark_read_sources.Goals.{then-nodes-n, else-nodes-n}

pub nodes-init : goal.nodes-init
nodes-init g c = λ unmarked. marked_start (g.V.View.gates c.args.view.now) c.args.nodes.now c.args.marks.now unmarked

pub mark_source-requires-clause-reads : goal.mark_source-requires-clause-reads
mark_source-requires-clause-reads g c = reads_within (g.V.View.gates c.args.view.now) (g.V.View.source_count c.args.view.now) c.nodes.n _ c.nodes-n-end.ensures.lawful c.gate_at.ensures

pub nodes-preserved : goal.nodes-preserved
nodes-preserved g c =
    let gates = g.V.View.gates c.args.view.now in
    let Done : List Bool → Type 0 = λ marks. Marks (MarkedBelow gates c.args.nodes.now (c.nodes.n + 1)) marks in
    λ unmarked. elim c.if-nodes-n.branch [
      | then-nodes-n w ↦ subst Done (sym w.marks-is) (marked_more gates c.args.nodes.now c.nodes.marks _ c.nodes.n _ w.gate_at.ensures w.if-nodes-n.true (c.nodes.invariant unmarked) w.mark_source.ensures)
      | else-nodes-n w ↦ subst Done (sym w.marks-is) (marked_skip gates c.args.nodes.now c.nodes.marks c.nodes.n w.if-nodes-n.false (c.nodes.invariant unmarked))
    ]

pub returns-clause-marks : goal.returns-clause-marks
returns-clause-marks g c = λ read unmarked.
    marked_all (net_of (g.V.View.gates c.args.view.now) (g.V.FlopNet.names c.args.view.now) (g.V.FlopNet.kinds c.args.view.now) (g.V.FlopNet.named_bits c.args.view.now)) c.args.nodes.now c.nodes.marks c.nodes.n read (omega arith) (c.nodes.invariant unmarked)
