use Rattle.std.proofs.Common.{map, take}
use Rattle.net_view.specs.Places.{ArePlaces}
use Rattle.net_view.proofs.pins.pin_needs.Given as goal

abbrev pub invariant-read : goal.invariant-read
invariant-read g l = ArePlaces (map g.V.View.source_number (take l.s-index l.s-items)) l.places l.needs
