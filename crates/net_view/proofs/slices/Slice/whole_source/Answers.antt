use Rattle.std.proofs.Common.{◌≡◌, ◌<◌, length, map, get_or, subst, sym, ap, ◌∙◌, arith}
use Rattle.std.proofs.lemmas.List.{get_or-map, length-map}
use Rattle.net_view.specs.Slice.{Cut}
use Rattle.net_view.proofs.slices.Slice.whole_source.Goals as goal

pub returns-clause-inside : goal.returns-clause-inside
returns-clause-inside g c =
    let number = g.V.View.source_number in
    let all = c.self.inside.sources.items in
    let listed : c.args.s < length (map number all) = subst (λ (cut : Cut). c.args.s < length cut.sources) (sym c.self.view_is) c.requires in
    let lt : c.number.result < length all = omega (arith, listed, length-map all number, c.number.ensures) in
    let is : get_or (map number all) c.number.result 0 ≡ number c.index.result.now = get_or-map number all c.number.result c.index.result.now 0 lt ∙ ap number (sym c.index.ensures) in
    let low = c.self.invariant.sources_inside c.number.result 0 (omega (arith, listed, c.number.ensures)) in
    subst (λ (cut : Cut). number c.index.result.now < cut.whole_sources) c.self.view_is (omega (arith, is, low))
