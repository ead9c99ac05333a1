use Rattle.std.proofs.Common.{map}
use Rattle.net_view.specs.Places.{HaveNeeds}
use Rattle.net_view.proofs.pins.all_needs.Given as goal

abbrev pub invariant-flops : goal.invariant-flops
invariant-flops g l = HaveNeeds (g.V.View.gates l.view) (g.V.FlopNet.kinds l.view) l.places (map g.V.View.source_number l.flops) l.flop-index l.needs.items
