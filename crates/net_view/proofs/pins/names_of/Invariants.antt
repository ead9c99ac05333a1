use Rattle.std.proofs.Common.{◌≡◌, map, take}
use Rattle.net_view.specs.PinOrder.{name_of}
use Rattle.net_view.proofs.pins.names_of.Given as goal

abbrev pub invariant-flops : goal.invariant-flops
invariant-flops g l = l.names ≡ map (name_of (g.V.FlopNet.names l.view)) (map g.V.View.source_number (take l.flop-index l.flops))
