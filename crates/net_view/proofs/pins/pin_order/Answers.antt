use Rattle.std.proofs.Common.{◌≡◌, ◌<◌, All, refl, ℕ, List, Option, length, map, sym, subst, ap}
use Rattle.std.specs.Prelude.{slice_index}
use Rattle.std.proofs.lemmas.List.{length-map}
use Rattle.net_view.specs.Queue.{Needs, IsListing, IsCycle}
use Rattle.net_view.specs.QueueOf.{IsListed}
use Rattle.net_view.specs.declared.queue.Listing.{Listing}
use Rattle.net_view.specs.PinOrder.{IsFlop, DependsOn, IsNamedBefore, IsPinOrder, IsPinLoop, name_of}
use Rattle.net_view.specs.Places.{IsPlaced, HaveNeeds}
use Rattle.net_view.proofs.PlaceLemmas.{Carries, carries, needs_closed, order_is, loop_is, listing_inside, cycle_inside, found_inside, places_inside}
use Rattle.net_view.proofs.pins.pin_order.Goals as goal

pub least_first-requires-clause-closed : goal.least_first-requires-clause-closed
least_first-requires-clause-closed g c i j need =
    let number = g.V.View.source_number in
    let gates = g.V.View.gates c.args.view.now in
    let kinds = g.V.FlopNet.kinds c.args.view.now in
    let names = g.V.FlopNet.names c.args.view.now in
    let count = g.V.View.source_count c.args.view.now in
    let flops = c.in_ok-flops.flops.items in
    let places = c.in_ok-places.places.items in
    let needs = c.in_ok-needs.needs.items in
    let placed : IsPlaced (map number flops) count places = subst (λ (xs : List g.row.V-Src.Denot). IsPlaced (map number xs) count places) c.deref.ensures.value c.in_ok-places.ensures in
    let have : HaveNeeds gates kinds places (map number flops) (length flops) needs =
    subst (λ (xs : List g.row.V-Src.Denot). HaveNeeds gates kinds places (map number xs) (length xs) needs) c.deref-2.ensures.value
    (subst (λ (ps : List (Option ℕ)). HaveNeeds gates kinds ps (map number c.deref-2.result.now) (length c.deref-2.result.now) needs) c.deref-3.ensures.value c.in_ok-needs.ensures) in
    let all : HaveNeeds gates kinds places (map number flops) (length (map number flops)) needs =
    subst (λ (n : ℕ). HaveNeeds gates kinds places (map number flops) n needs) (sym (length-map flops number)) have in
    let k = carries gates names kinds (map number flops) count places needs c.in_ok-flops.ensures.order placed all in
    subst (λ (zs : List (List ℕ)). j < length zs) (sym c.deref-4.ensures.value)
    (needs_closed (IsFlop kinds) (DependsOn gates kinds) (IsNamedBefore names) needs (slice_index (map number flops)) k i j (subst (λ (zs : List (List ℕ)). Needs zs i j) c.deref-4.ensures.value need))

pub returns-in-Order : goal.returns-in-Order
returns-in-Order g c =
    let number = g.V.View.source_number in
    let gates = g.V.View.gates c.args.view.now in
    let kinds = g.V.FlopNet.kinds c.args.view.now in
    let names = g.V.FlopNet.names c.args.view.now in
    let count = g.V.View.source_count c.args.view.now in
    let flops = c.in_ok-flops.flops.items in
    let places = c.in_ok-places.places.items in
    let needs = c.in_ok-needs.needs.items in
    let placed : IsPlaced (map number flops) count places = subst (λ (xs : List g.row.V-Src.Denot). IsPlaced (map number xs) count places) c.deref.ensures.value c.in_ok-places.ensures in
    let have : HaveNeeds gates kinds places (map number flops) (length flops) needs =
    subst (λ (xs : List g.row.V-Src.Denot). HaveNeeds gates kinds places (map number xs) (length xs) needs) c.deref-2.ensures.value
    (subst (λ (ps : List (Option ℕ)). HaveNeeds gates kinds ps (map number c.deref-2.result.now) (length c.deref-2.result.now) needs) c.deref-3.ensures.value c.in_ok-needs.ensures) in
    let all : HaveNeeds gates kinds places (map number flops) (length (map number flops)) needs =
    subst (λ (n : ℕ). HaveNeeds gates kinds places (map number flops) n needs) (sym (length-map flops number)) have in
    let k = carries gates names kinds (map number flops) count places needs c.in_ok-flops.ensures.order placed all in
    let order = c.in-Order.order.items in
    let told : IsListing c.deref-4.result.now order = subst (λ (l : Listing). IsListed c.deref-4.result.now l) c.in-Order.is c.in_ok-order.ensures in
    let listed : IsListing needs order = subst (λ (zs : List (List ℕ)). IsListing zs order) c.deref-4.ensures.value told in
    let found = subst (λ (xs : List g.row.V-Src.Denot). map number c.in_ok-flops_at-in-Order.field-0.items ≡ map (slice_index (map number xs)) order) c.deref-in-Order.ensures.value
    (subst (λ (ks : List ℕ). map number c.in_ok-flops_at-in-Order.field-0.items ≡ map (slice_index (map number c.deref-in-Order.result.now)) ks) c.deref-in-Order-2.ensures.value c.in_ok-flops_at-in-Order.ensures) in
    let is = order_is gates names kinds (slice_index (map number flops)) needs order k listed in
    (subst (λ (xs : List ℕ). IsPinOrder gates names kinds xs) (sym found) is.0, is.1)

pub returns : goal.returns
returns g c =
    let number = g.V.View.source_number in
    let gates = g.V.View.gates c.args.view.now in
    let kinds = g.V.FlopNet.kinds c.args.view.now in
    let names = g.V.FlopNet.names c.args.view.now in
    let count = g.V.View.source_count c.args.view.now in
    let flops = c.in_ok-flops.flops.items in
    let places = c.in_ok-places.places.items in
    let needs = c.in_ok-needs.needs.items in
    let placed : IsPlaced (map number flops) count places = subst (λ (xs : List g.row.V-Src.Denot). IsPlaced (map number xs) count places) c.deref.ensures.value c.in_ok-places.ensures in
    let have : HaveNeeds gates kinds places (map number flops) (length flops) needs =
    subst (λ (xs : List g.row.V-Src.Denot). HaveNeeds gates kinds places (map number xs) (length xs) needs) c.deref-2.ensures.value
    (subst (λ (ps : List (Option ℕ)). HaveNeeds gates kinds ps (map number c.deref-2.result.now) (length c.deref-2.result.now) needs) c.deref-3.ensures.value c.in_ok-needs.ensures) in
    let all : HaveNeeds gates kinds places (map number flops) (length (map number flops)) needs =
    subst (λ (n : ℕ). HaveNeeds gates kinds places (map number flops) n needs) (sym (length-map flops number)) have in
    let k = carries gates names kinds (map number flops) count places needs c.in_ok-flops.ensures.order placed all in
    let cycle = c.in-Cycle.cycle.items in
    let told : IsCycle c.deref-4.result.now cycle = subst (λ (l : Listing). IsListed c.deref-4.result.now l) c.in-Cycle.is c.in_ok-order.ensures in
    let is-cycle : IsCycle needs cycle = subst (λ (zs : List (List ℕ)). IsCycle zs cycle) c.deref-4.ensures.value told in
    let ids = c.in_ok-cycle-in-Cycle.cycle.items in
    let found = subst (λ (xs : List g.row.V-Src.Denot). map number ids ≡ map (slice_index (map number xs)) cycle) c.deref-in-Cycle.ensures.value
    (subst (λ (ks : List ℕ). map number ids ≡ map (slice_index (map number c.deref-in-Cycle.result.now)) ks) c.deref-in-Cycle-2.ensures.value c.in_ok-cycle-in-Cycle.ensures) in
    let is = loop_is gates names kinds (slice_index (map number flops)) needs cycle k is-cycle in (
      map number ids,
      subst (λ (xs : List ℕ). IsPinLoop gates names kinds xs) (sym found) is,
      subst (λ (xs : List g.row.V-Src.Denot). c.in_ok-names_of-in-Cycle.field-0 ≡ map (name_of names) (map number xs)) c.deref-in-Cycle-3.ensures.value c.in_ok-names_of-in-Cycle.ensures,
    )

pub flops_at-requires : goal.flops_at-requires
flops_at-requires g c =
    let number = g.V.View.source_number in
    let gates = g.V.View.gates c.args.view.now in
    let kinds = g.V.FlopNet.kinds c.args.view.now in
    let names = g.V.FlopNet.names c.args.view.now in
    let count = g.V.View.source_count c.args.view.now in
    let flops = c.in_ok-flops.flops.items in
    let places = c.in_ok-places.places.items in
    let needs = c.in_ok-needs.needs.items in
    let placed : IsPlaced (map number flops) count places = subst (λ (xs : List g.row.V-Src.Denot). IsPlaced (map number xs) count places) c.deref.ensures.value c.in_ok-places.ensures in
    let have : HaveNeeds gates kinds places (map number flops) (length flops) needs =
    subst (λ (xs : List g.row.V-Src.Denot). HaveNeeds gates kinds places (map number xs) (length xs) needs) c.deref-2.ensures.value
    (subst (λ (ps : List (Option ℕ)). HaveNeeds gates kinds ps (map number c.deref-2.result.now) (length c.deref-2.result.now) needs) c.deref-3.ensures.value c.in_ok-needs.ensures) in
    let all : HaveNeeds gates kinds places (map number flops) (length (map number flops)) needs =
    subst (λ (n : ℕ). HaveNeeds gates kinds places (map number flops) n needs) (sym (length-map flops number)) have in
    let k = carries gates names kinds (map number flops) count places needs c.in_ok-flops.ensures.order placed all in
    let order = c.in-Order.order.items in
    let told : IsListing c.deref-4.result.now order = subst (λ (l : Listing). IsListed c.deref-4.result.now l) c.in-Order.is c.in_ok-order.ensures in
    let low : All (λ n. n < length flops) order = places_inside needs c.deref-4.result.now (length flops) order (listing_inside c.deref-4.result.now order told) c.deref-4.ensures.value have.count_is in
    subst (λ (xs : List g.row.V-Src.Denot). All (λ n. n < length xs) c.deref-in-Order-2.result.now) (sym c.deref-in-Order.ensures.value)
    (subst (λ (ks : List ℕ). All (λ n. n < length flops) ks) (sym c.deref-in-Order-2.ensures.value) low)

pub flops_at-requires-in-Cycle : goal.flops_at-requires-in-Cycle
flops_at-requires-in-Cycle g c =
    let number = g.V.View.source_number in
    let gates = g.V.View.gates c.args.view.now in
    let kinds = g.V.FlopNet.kinds c.args.view.now in
    let names = g.V.FlopNet.names c.args.view.now in
    let count = g.V.View.source_count c.args.view.now in
    let flops = c.in_ok-flops.flops.items in
    let places = c.in_ok-places.places.items in
    let needs = c.in_ok-needs.needs.items in
    let placed : IsPlaced (map number flops) count places = subst (λ (xs : List g.row.V-Src.Denot). IsPlaced (map number xs) count places) c.deref.ensures.value c.in_ok-places.ensures in
    let have : HaveNeeds gates kinds places (map number flops) (length flops) needs =
    subst (λ (xs : List g.row.V-Src.Denot). HaveNeeds gates kinds places (map number xs) (length xs) needs) c.deref-2.ensures.value
    (subst (λ (ps : List (Option ℕ)). HaveNeeds gates kinds ps (map number c.deref-2.result.now) (length c.deref-2.result.now) needs) c.deref-3.ensures.value c.in_ok-needs.ensures) in
    let all : HaveNeeds gates kinds places (map number flops) (length (map number flops)) needs =
    subst (λ (n : ℕ). HaveNeeds gates kinds places (map number flops) n needs) (sym (length-map flops number)) have in
    let k = carries gates names kinds (map number flops) count places needs c.in_ok-flops.ensures.order placed all in
    let cycle = c.in-Cycle.cycle.items in
    let told : IsCycle c.deref-4.result.now cycle = subst (λ (l : Listing). IsListed c.deref-4.result.now l) c.in-Cycle.is c.in_ok-order.ensures in
    let is-cycle : IsCycle needs cycle = subst (λ (zs : List (List ℕ)). IsCycle zs cycle) c.deref-4.ensures.value told in
    let low : All (λ n. n < length flops) cycle = places_inside needs needs (length flops) cycle (cycle_inside (IsFlop kinds) (DependsOn gates kinds) (IsNamedBefore names) needs (slice_index (map number flops)) k cycle is-cycle) refl have.count_is in
    subst (λ (xs : List g.row.V-Src.Denot). All (λ n. n < length xs) c.deref-in-Cycle-2.result.now) (sym c.deref-in-Cycle.ensures.value)
    (subst (λ (ks : List ℕ). All (λ n. n < length flops) ks) (sym c.deref-in-Cycle-2.ensures.value) low)

pub names_of-requires : goal.names_of-requires
names_of-requires g c =
    let number = g.V.View.source_number in
    let gates = g.V.View.gates c.args.view.now in
    let kinds = g.V.FlopNet.kinds c.args.view.now in
    let names = g.V.FlopNet.names c.args.view.now in
    let count = g.V.View.source_count c.args.view.now in
    let flops = c.in_ok-flops.flops.items in
    let places = c.in_ok-places.places.items in
    let needs = c.in_ok-needs.needs.items in
    let placed : IsPlaced (map number flops) count places = subst (λ (xs : List g.row.V-Src.Denot). IsPlaced (map number xs) count places) c.deref.ensures.value c.in_ok-places.ensures in
    let have : HaveNeeds gates kinds places (map number flops) (length flops) needs =
    subst (λ (xs : List g.row.V-Src.Denot). HaveNeeds gates kinds places (map number xs) (length xs) needs) c.deref-2.ensures.value
    (subst (λ (ps : List (Option ℕ)). HaveNeeds gates kinds ps (map number c.deref-2.result.now) (length c.deref-2.result.now) needs) c.deref-3.ensures.value c.in_ok-needs.ensures) in
    let all : HaveNeeds gates kinds places (map number flops) (length (map number flops)) needs =
    subst (λ (n : ℕ). HaveNeeds gates kinds places (map number flops) n needs) (sym (length-map flops number)) have in
    let k = carries gates names kinds (map number flops) count places needs c.in_ok-flops.ensures.order placed all in
    let cycle = c.in-Cycle.cycle.items in
    let told : IsCycle c.deref-4.result.now cycle = subst (λ (l : Listing). IsListed c.deref-4.result.now l) c.in-Cycle.is c.in_ok-order.ensures in
    let is-cycle : IsCycle needs cycle = subst (λ (zs : List (List ℕ)). IsCycle zs cycle) c.deref-4.ensures.value told in
    let low : All (λ n. n < length flops) cycle = places_inside needs needs (length flops) cycle (cycle_inside (IsFlop kinds) (DependsOn gates kinds) (IsNamedBefore names) needs (slice_index (map number flops)) k cycle is-cycle) refl have.count_is in
    let ids = c.in_ok-cycle-in-Cycle.cycle.items in
    let found = subst (λ (xs : List g.row.V-Src.Denot). map number ids ≡ map (slice_index (map number xs)) cycle) c.deref-in-Cycle.ensures.value
    (subst (λ (ks : List ℕ). map number ids ≡ map (slice_index (map number c.deref-in-Cycle.result.now)) ks) c.deref-in-Cycle-2.ensures.value c.in_ok-cycle-in-Cycle.ensures) in
    subst (λ (xs : List g.row.V-Src.Denot). All (λ s. number s < count) xs) (sym c.deref-in-Cycle-3.ensures.value)
    (found_inside number flops ids cycle count c.in_ok-flops.ensures.inside low found)
