use Rattle.std.proofs.Common.{ℕ, List}
use Rattle.std.proofs.lemmas.Result.{IfOk-weaker}
use Rattle.net_view.proofs.PinLemmas.{pin_inside, need_of}
use Rattle.net_view.proofs.pins.flop_needs.Goals as goal

pub pin_needs-requires-clause-inside : goal.pin_needs-requires-clause-inside
pin_needs-requires-clause-inside g c =
    pin_inside g.V.View.node_number (g.V.View.gates c.args.view.now) (g.V.View.source_count c.args.view.now) (g.V.FlopNet.names c.args.view.now) (g.V.FlopNet.kinds c.args.view.now) (g.V.FlopNet.named_bits c.args.view.now) (g.V.View.source_number c.args.flop)
    c.kind.result c.in-Flop.kind c.in-Some.pin c.bits-bits.ensures.lawful c.kind.ensures c.in-Flop.is c.in-Some.is

pub returns-in-Some : goal.returns-in-Some
returns-in-Some g c = IfOk-weaker c.pin_needs.result _ _
    (λ needs h. need_of g.V.View.node_number (g.V.View.gates c.args.view.now) (g.V.FlopNet.kinds c.args.view.now) (g.V.View.source_number c.args.flop) c.kind.result c.in-Flop.kind c.in-Some.pin h.0 c.args.places.now needs
    c.kind.ensures c.in-Flop.is c.in-Some.is h.1 h.2)
    c.pin_needs.ensures
