-- What a flop is connected to is there.
use Rattle.cons_bind.proofs.ReadsLemmas.{connected}
use Rattle.cons_bind.proofs.reads.mark_flop.Goals as goal

pub mark_some-requires-clause-node : goal.mark_some-requires-clause-node
mark_some-requires-clause-node g c = (connected g.V.View.node_number _ _ _ _ _ _ _ c.in-Flop.flop c.bits-bits.ensures.lawful c.kind.ensures c.in-Flop.is).0

pub mark_some-requires-2-clause-node : goal.mark_some-requires-2-clause-node
mark_some-requires-2-clause-node g c = (connected g.V.View.node_number _ _ _ _ _ _ _ c.in-Flop.flop c.bits-bits.ensures.lawful c.kind.ensures c.in-Flop.is).1
