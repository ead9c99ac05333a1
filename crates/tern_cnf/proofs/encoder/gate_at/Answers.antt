-- A gate of a net reads lower nodes.
use Rattle.std.proofs.Common.{◌≡◌, ◌<◌, length, arith, subst, sym}
use Rattle.std.specs.Prelude.{⊤}
use Rattle.net_view.specs.View.{Numbered, Reads, renumbered}
use Rattle.net_view.proofs.ValuesLemmas.{reads_more}
use Rattle.tern_cnf.proofs.encoder.gate_at.Goals as goal

pub numbered-requires : goal.numbered-requires
numbered-requires g c =
    let gates = g.V.View.gates c.args.view.now in
    let count = g.V.View.source_count c.args.view.now in
    let at_n = c.in-Some.ensures in
    reads_more (λ j. j < g.V.View.node_number c.in-Some.node) (λ s. s < count) (λ j. j < length gates) (λ s. s < count) _
    (λ j below. omega (arith, at_n.0, at_n.1)) (λ s below. below) (c.nodes-lawful.ensures.lawful.lower _ _ c.gate.ensures)

pub returns-clause-below : goal.returns-clause-below
returns-clause-below g c =
    let count = g.V.View.source_count c.args.view.now in
    let at_n = c.in-Some.ensures in
    let is : renumbered g.V.View.node_number g.V.View.source_number c.gate.result ≡ c.numbered.result = sym c.numbered.ensures in
    subst (λ (h : Numbered). Reads (λ j. j < c.args.n) (λ s. ⊤) h) is
    (reads_more (λ j. j < g.V.View.node_number c.in-Some.node) (λ s. s < count) (λ j. j < c.args.n) (λ s. ⊤) _
    (λ j below. omega (arith, at_n.1)) (λ s below. tt) (c.nodes-lawful.ensures.lawful.lower _ _ c.gate.ensures))
