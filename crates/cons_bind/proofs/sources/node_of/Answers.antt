-- A bit's node is a node.
use Rattle.cons_bind.proofs.NamesLemmas.{node_within}
use Rattle.cons_bind.proofs.sources.node_of.Goals as goal

pub index-requires : goal.index-requires
index-requires g c = node_within _ _ _ _ _ c.args.b _ c.bits-bits.ensures.lawful c.requires c.bit_node.ensures
