use Rattle.cons_bind.specs.Names.{net_of}
use Rattle.reset_trees.proofs.PinLemmas.{order_inside}
use Rattle.reset_trees.proofs.tracing.listed_trees.Goals as goal

pub numbers_of-requires : goal.numbers_of-requires
numbers_of-requires g c =
    let net = net_of (g.V.View.gates c.args.view.now) (g.V.FlopNet.names c.args.view.now) (g.V.FlopNet.kinds c.args.view.now) (g.V.FlopNet.named_bits c.args.view.now) in
    order_inside g.V.View.source_number net (g.V.View.source_count c.args.view.now) c.args.order.now c.bits-bits.ensures.lawful.each_kind c.requires.order
