use Rattle.net_view.proofs.PinLemmas.{flop_is}
use Rattle.net_view.proofs.pins.flop_at.Goals as goal

pub kind-requires : goal.kind-requires
kind-requires g c = c.nodes-nodes.ensures.lawful.lower _ _ (rw c.in-Source.is at c.gate_at.ensures)

pub returns-in-Flop : goal.returns-in-Flop
returns-in-Flop g c = (
  c.nodes-nodes.ensures.lawful.lower _ _ (rw c.in-Source.is at c.gate_at.ensures),
  (rw c.in-Source.is at c.gate_at.ensures, flop_is g.V.View.node_number (g.V.FlopNet.kinds c.args.view.now) (g.V.View.source_number c.in-Source.s) c.kind.result c.in-Flop.field-0 c.kind.ensures c.in-Flop.is),
)
