-- A bit is the source of its node where it has the source's name.
use Rattle.std.proofs.Common.{◌∙◌, sym}
use Rattle.std.proofs.lemmas.Slice.Eq.{bytes_eq-Decides}
use Rattle.cons_bind.proofs.NamesLemmas.{node_within, source_bit}
use Rattle.reset_trees.proofs.direct.source_at.Goals as goal

pub gate-requires : goal.gate-requires
gate-requires g c = node_within _ _ _ _ _ c.args.b _ c.bits-bits.ensures.lawful c.requires c.bit_node.ensures

pub name-requires : goal.name-requires
name-requires g c = c.nodes-nodes.ensures.lawful.lower _ _ (rw c.in-Source.is at c.gate.ensures)

pub src_index-requires : goal.src_index-requires
src_index-requires g c = c.nodes-nodes.ensures.lawful.lower _ _ (rw c.in-Source.is at c.gate.ensures)

pub returns-then-eq : goal.returns-then-eq
returns-then-eq g c =
    let gate = rw c.in-Source.is at c.gate.ensures in
    let is = source_bit (g.V.View.gates c.args.view.now) (g.V.FlopNet.names c.args.view.now) (g.V.FlopNet.kinds c.args.view.now) (g.V.FlopNet.named_bits c.args.view.now) c.args.b _ _ _ _ c.requires c.bit_node.ensures c.bit_name.ensures gate c.name.ensures ((bytes_eq-Decides _ _).0 (sym c.eq.ensures ∙ c.if-eq.true)) in
    rw c.src_index.ensures is
