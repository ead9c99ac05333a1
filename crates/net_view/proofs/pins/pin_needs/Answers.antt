use Rattle.std.proofs.Common.{◌≡◌, ◌≢◌, ◌<◌, ◌+◌, ◌++◌, ◌∷◌, ℕ, List, [], length, map, take, sym, subst, ap, ◌∙◌, Some, None, All, arith}
use Rattle.std.specs.Prelude.{slice_index_or}
use Rattle.net_view.specs.Cone.{Lists, ReadsSource}
use Rattle.net_view.specs.Places.{ArePlaces}
use Rattle.net_view.proofs.PinLemmas.{read_inside, places_some, places_none}
use Rattle.net_view.proofs.pins.pin_needs.Goals as goal
use Rattle.net_view.proofs.pins.pin_needs.Goals.{in-Some+in_ok-push, in_default}

pub src_index-requires : goal.src_index-requires
src_index-requires g c =
    read_inside (g.V.View.gates c.args.view.now) (g.V.View.source_count c.args.view.now) (g.V.View.node_number c.args.pin) g.V.View.source_number c.in_ok-read.read.items c.read.s-index c.s-item.result
    c.nodes-nodes.ensures.lawful c.in_ok-read.ensures (subst (λ (xs : List g.row.V-Src.Denot). c.read.s-index < length xs) c.deref-s-items.ensures.value c.read-test.true)
    (subst (λ (xs : List g.row.V-Src.Denot). c.s-item.result ≡ slice_index_or xs c.read.s-index c.s-item.result) c.deref-s-items.ensures.value c.s-item.is)

pub bounds : goal.bounds
bounds g c =
    let inside : g.V.View.source_number c.s-item.result < g.V.View.source_count c.args.view.now =
    read_inside (g.V.View.gates c.args.view.now) (g.V.View.source_count c.args.view.now) (g.V.View.node_number c.args.pin) g.V.View.source_number c.in_ok-read.read.items c.read.s-index c.s-item.result
    c.nodes-nodes.ensures.lawful c.in_ok-read.ensures (subst (λ (xs : List g.row.V-Src.Denot). c.read.s-index < length xs) c.deref-s-items.ensures.value c.read-test.true)
    (subst (λ (xs : List g.row.V-Src.Denot). c.s-item.result ≡ slice_index_or xs c.read.s-index c.s-item.result) c.deref-s-items.ensures.value c.s-item.is) in
    omega (arith, c.src_index.ensures, c.requires.each_source)

pub read-preserved : goal.read-preserved
read-preserved g c =
    let number = g.V.View.source_number in
    let read = c.deref-s-items.result.now in
    let places = c.args.places.now in
    let i = c.read.s-index in
    elim c.match-places-src_index.branch [
      | in-Some+in_ok-push w ↦
          subst (λ (zs : List ℕ). ArePlaces (map number (take (i + 1) read)) places zs) (sym (w.needs-is ∙ w.in_ok-push.ensures.ok))
          (places_some number read c.s-item.result places c.read.needs i w.in-Some.k c.read-test.true c.s-item.is (subst (λ (z : ℕ). slice_index_or places z None ≡ Some w.in-Some.k) c.src_index.ensures w.in-Some.is) c.read.invariant)
      | in_default w ↦
          subst (λ (zs : List ℕ). ArePlaces (map number (take (i + 1) read)) places zs) (sym w.needs-is)
          (places_none number read c.s-item.result places c.read.needs i c.read-test.true c.s-item.is (subst (λ (z : ℕ). (k : ℕ) → slice_index_or places z None ≢ Some k) c.src_index.ensures w.in_default.not-Some) c.read.invariant)
    ]
