use Rattle.std.proofs.Common.{sym, subst, ℕ, ◌<◌, Some, set, take, map, ◌+◌, arith}
use Rattle.net_view.specs.Places.{IsPlaced}
use Rattle.net_view.proofs.PinLemmas.{placed_map}
use Rattle.net_view.proofs.pins.places_of.Goals as goal

pub flops-preserved : goal.flops-preserved
flops-preserved g c =
    let number = g.V.View.source_number in
    let flops = c.args.flops.now in
    let count = g.V.View.source_count c.args.view.now in
    let s = c.index-flops-k.result in
    let inside : number s < count = subst (λ (z : g.row.V-Src.Denot). number z < count) (sym c.index-flops-k.is) (c.requires.inside c.flops.k s c.flops-test.true) in
    subst (λ (z : ℕ). IsPlaced (take (c.flops.k + 1) (map number flops)) count (set c.flops.places.items z (Some c.flops.k))) (sym c.src_index.ensures)
    (placed_map number flops s count c.flops.places.items c.flops.k c.flops-test.true c.index-flops-k.is inside c.flops.invariant)
