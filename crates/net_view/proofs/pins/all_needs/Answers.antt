use Rattle.std.proofs.Common.{◌≡◌, ◌+◌, ◌++◌, ◌∷◌, [], ℕ, List, map, sym, subst}
use Rattle.net_view.specs.Places.{HaveNeeds}
use Rattle.net_view.proofs.PinLemmas.{have_more}
use Rattle.net_view.proofs.pins.all_needs.Goals as goal

pub flops-preserved : goal.flops-preserved
flops-preserved g c =
    let gates = g.V.View.gates c.args.view.now in
    let kinds = g.V.FlopNet.kinds c.args.view.now in
    let flops = map g.V.View.source_number c.args.flops.now in
    subst (λ (zs : List (List ℕ)). HaveNeeds gates kinds c.args.places.now flops (c.flops.flop-index + 1) zs) (sym c.in_ok-push.ensures.items)
    (have_more gates kinds c.args.places.now g.V.View.source_number c.args.flops.now c.flop-item.result c.flops.flop-index c.flops.needs.items c.in_ok-flop_needs.field-0 c.flops-test.true c.flop-item.is c.in_ok-flop_needs.ensures c.flops.invariant)
