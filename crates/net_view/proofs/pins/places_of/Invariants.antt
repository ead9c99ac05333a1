use Rattle.std.proofs.Common.{map, take}
use Rattle.net_view.specs.Places.{IsPlaced}
use Rattle.net_view.proofs.pins.places_of.Given as goal

abbrev pub invariant-flops : goal.invariant-flops
invariant-flops g l = IsPlaced (take l.k (map g.V.View.source_number l.flops)) (g.V.View.source_count l.view) l.places.items
