use Rattle.std.proofs.Common.{◌≡◌, ◌+◌, ◌++◌, ◌∷◌, [], ℕ, List, map, take, get_or, sym, ap, ◌∙◌, Some}
use Rattle.std.specs.Prelude.{slice_get}
use Rattle.net_view.specs.PinOrder.{name_of}
use Rattle.net_view.proofs.PinLemmas.{names_more}
use Rattle.net_view.proofs.pins.names_of.Goals as goal

pub flops-preserved : goal.flops-preserved
flops-preserved g c =
    c.in_ok-push.ensures.ok ∙ names_more g.V.View.source_number (g.V.FlopNet.names c.args.view.now) c.args.flops.now c.flop-item.result c.flops.flop-index c.flops.names c.in_ok-bytes_of.field-0 c.flops-test.true c.flop-item.is
    (c.name.ensures ∙ ap (λ (z : List ℕ). Some z) (sym c.in_ok-bytes_of.ensures)) c.flops.invariant
