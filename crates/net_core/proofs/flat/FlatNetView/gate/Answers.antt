use Rattle.std.proofs.Common.{◌≡◌, ℕ, List, length, ◌<◌, sym, subst, ap, ◌∙◌, slice_get, slice_index_or, Some}
use Rattle.std.proofs.lemmas.Option.{slice_get-get_or}
use Rattle.net_view.specs.View.{Numbered, Reads}
use Rattle.net_view.specs.FlopNet.{Kind}
use Rattle.net_view.specs.declared.gate.Gate.TheVariants.{Const}
use Rattle.std.specs.Prelude.{false}
use Rattle.net_core.specs.Net.{Net}
use Rattle.net_core.proofs.CallLemmas.{gate_reads}
use Rattle.net_core.proofs.flat.FlatNetView.gate.Goals as goal

pub ids-requires : goal.ids-requires
ids-requires c =
    let net = c.self.inside.parts in
    let d : Numbered = Const false in
    let inside : c.number.result < length net.gates = subst (λ (n : ℕ). n < length net.gates) (sym c.number.ensures) (subst (λ (m : Net). c.args.n < length m.gates) (sym c.self.view_is) c.requires) in
    let here = gate_reads net c.number.result d c.self.invariant inside in
    subst (λ (gates : List Numbered). Reads (λ j. j < length gates) (λ s. s < length c.kinds.result.now) (slice_index_or gates c.number.result d)) (sym c.gates-gates.ensures)
    (subst (λ (kinds : List Kind). Reads (λ j. j < length net.gates) (λ s. s < length kinds) (slice_index_or net.gates c.number.result d)) (sym c.kinds.ensures) here)

pub returns : goal.returns
returns c =
    let d : Numbered = Const false in
    let at : slice_get c.args.self.now.gates c.args.n ≡ Some (slice_index_or c.args.self.now.gates c.args.n d) = slice_get-get_or c.args.self.now.gates c.args.n d c.requires in
    let same : slice_index_or c.gates-gates.result.now c.number.result d ≡ slice_index_or c.args.self.now.gates c.args.n d =
    (λ j. slice_index_or ((c.gates-gates.ensures ∙ ap (λ (m : Net). m.gates) c.self.view_is) j) (c.number.ensures j) d) in
    at ∙ ap (λ (g : Numbered). Some g) (sym (c.ids.ensures ∙ same))
