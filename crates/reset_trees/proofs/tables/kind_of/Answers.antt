-- What a flop is connected to is there.
use Rattle.cons_bind.proofs.ReadsLemmas.{connected}
use Rattle.reset_trees.proofs.tables.kind_of.Goals as goal

pub number_of-requires : goal.number_of-requires
number_of-requires g c = (connected g.V.View.node_number _ _ _ _ _ _ _ c.in-Flop.flop c.bits-bits.ensures.lawful c.kind.ensures c.in-Flop.is).0

pub number_of-requires-in-Flop : goal.number_of-requires-in-Flop
number_of-requires-in-Flop g c = (connected g.V.View.node_number _ _ _ _ _ _ _ c.in-Flop.flop c.bits-bits.ensures.lawful c.kind.ensures c.in-Flop.is).1
