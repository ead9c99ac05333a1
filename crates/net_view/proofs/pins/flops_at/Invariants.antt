use Rattle.std.proofs.Common.{◌≡◌, map, take, slice_index}
use Rattle.net_view.proofs.pins.flops_at.Given as goal

abbrev pub invariant-places : goal.invariant-places
invariant-places g l = map g.V.View.source_number l.found.items ≡ map (slice_index (map g.V.View.source_number l.flops)) (take l.k-index l.places)
