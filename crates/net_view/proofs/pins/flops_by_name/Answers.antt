use Rattle.std.proofs.Common.{◌≡◌, ◌<◌, ℕ, List, length, map, All, sym, ap, ◌∙◌, arith, subst, Vec, Global, rules}
use Rattle.std.specs.Borrow.{Bor}
use Rattle.std.proofs.lemmas.Result.{IfOk-weaker}
use Rattle.std.proofs.lemmas.List.{length-map}
use Rattle.std.proofs.lemmas.List.Elements.{All-map}
use Rattle.std.proofs.lemmas.List.Sorted.{All-permutation}
use Rattle.net_view.specs.PinOrder.{name_of}
use Rattle.net_view.specs.Places.{AreNamed, IsNamedInOrder}
use Rattle.std.proofs.lemmas.Fn.{always_returns_same}
use Rattle.net_view.proofs.NameLemmas.{named_in_order, named_numbers}
use Rattle.net_view.proofs.pins.flops_by_name.Goals as goal

pub returns-clause-few : goal.returns-clause-few
returns-clause-few g c =
    let sorted = c.sort_unstable_by_key.new.self.items in
    let len : length sorted ≡ length c.in_ok-flops.flops.items = omega (arith, c.sort_unstable_by_key.ensures.len) in
    IfOk-weaker c.bare_flops.result _ _
    (λ bare is. subst (λ (xs : List g.row.V-Src.Denot). length xs < 4294967296) (sym is) (omega (arith, len, c.in_ok-flops.ensures.few, length-map sorted (λ (f : Bor (List ℕ) × ℕ × g.row.V-Src.Denot). f.2))))
    c.bare_flops.ensures

pub returns-clause-inside : goal.returns-clause-inside
returns-clause-inside g c =
    let number = g.V.View.source_number in
    let count = g.V.View.source_count c.args.view.now in
    let sorted = c.sort_unstable_by_key.new.self.items in
    let named : AreNamed number count (g.V.FlopNet.names c.args.view.now) sorted = All-permutation (λ (f : Bor (List ℕ) × ℕ × g.row.V-Src.Denot). (number f.2 < count) × (number f.2 ≡ f.1) × (name_of (g.V.FlopNet.names c.args.view.now) f.1 ≡ f.0.now)) c.in_ok-flops.flops.items sorted c.sort_unstable_by_key.ensures.permutation c.in_ok-flops.ensures.named in
    IfOk-weaker c.bare_flops.result _ _
    (λ bare is. subst (λ (xs : List g.row.V-Src.Denot). All (λ s. number s < count) xs) (sym is) (All-map (λ s. number s < count) (λ (f : Bor (List ℕ) × ℕ × g.row.V-Src.Denot). f.2) sorted (λ k d lt. (named k d lt).0)))
    c.bare_flops.ensures

pub returns-clause-order : goal.returns-clause-order
returns-clause-order g c =
    let number = g.V.View.source_number in
    let count = g.V.View.source_count c.args.view.now in
    let names = g.V.FlopNet.names c.args.view.now in
    let kinds = g.V.FlopNet.kinds c.args.view.now in
    let sorted = c.sort_unstable_by_key.new.self.items in
    let named : AreNamed number count (g.V.FlopNet.names c.args.view.now) sorted = All-permutation (λ (f : Bor (List ℕ) × ℕ × g.row.V-Src.Denot). (number f.2 < count) × (number f.2 ≡ f.1) × (name_of (g.V.FlopNet.names c.args.view.now) f.1 ≡ f.0.now)) c.in_ok-flops.flops.items sorted c.sort_unstable_by_key.ensures.permutation c.in_ok-flops.ensures.named in
    let up = c.sort_unstable_by_key.ensures.sorted (λ f. (f.0, f.1)) (always_returns_same _ (λ a r. r ≡ (a.0.now.0, a.0.now.1)) _ (λ a r q k. search rules)) in
    let order = named_in_order number (g.V.View.gates c.args.view.now) names kinds count c.in_ok-flops.flops.items sorted c.nodes-nodes.ensures.lawful c.bits-bits.ensures.lawful.each_kind named c.in_ok-flops.ensures.flops c.sort_unstable_by_key.ensures.permutation up in
    IfOk-weaker c.bare_flops.result _ _
    (λ bare is. subst (λ (zs : List ℕ). IsNamedInOrder names kinds zs) (sym (ap (map number) is ∙ named_numbers number count names sorted named)) order)
    c.bare_flops.ensures
