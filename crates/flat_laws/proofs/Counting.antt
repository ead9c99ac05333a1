-- No design has more signals than its size says, and its size is below the limit.
use Rattle.std.proofs.Common.{◌≡◌, ℕ, zero, suc, ◌+◌, ◌-◌, ◌<◌, ◌≤◌, Bool, true, false, nat_le, ◌==◌, max, min, List, [], ◌∷◌, ◌++◌, length, drop, slice_get, Option, Some, None, Ok, Err, refl, sym, ap, subst, ◌∙◌, inl, inr, arith}
use Rattle.std.proofs.lemmas.Bool.{cases_Bool, cond-true, cond-false}
use Rattle.std.proofs.lemmas.Bool.Decides.{nat_tests}
use Rattle.std.proofs.lemmas.List.{length-drop}
use Rattle.std.specs.List.{list_any}
use Rattle.rdc_outside.specs.declared.source.Place.{Place}
use Rattle.vlog_tree.specs.declared.module.Module.{Module}
use Rattle.design_form.specs.Signals.{bounds_of, width_of}
use Rattle.elab_names.specs.declared.fault.ElabFault.TheVariants.{Heavy}
use Rattle.elab_names.specs.Answers.{Or_fault}
use Rattle.elab_scopes.specs.declared.placed.Placed.{Placed}
use Rattle.elab_scopes.specs.Threads.{threaded}
use Rattle.elab_items.specs.Plans.{Plan, Pending}
use Rattle.elab_items.specs.Instances.{Lib}
use Rattle.elab_tree.specs.Sizes.{limit, counted, signal_counted, weighed}
use Rattle.elab_tree.specs.Hierarchy.{State, taken_up, own, own_placed, placed_in, grown_in, grown_at, grown}
use Rattle.elab_tree.specs.Tops.{Top, grown_from, most_levels, nothing, topmost}
use Rattle.flat_laws.proofs.Answers.{followed, threaded_keeps}

-- no more signals than its size, which is below the limit
pub record Fits (s : State) : Type 0 where
  pub signals : length s.plan.draft.drawn.signals ≤ s.size
  pub below : s.size < 1048576

-- a number that was counted
counted_is : (place : Place) (n size out : ℕ) → counted place n size ≡ Ok out → (out ≡ size + n) × (out < 1048576)
unfolding counted limit
counted_is place n size out h =
    elim (cases_Bool (nat_le 1048576 (size + n))) [
      | inl most ↦ let bad : Err (Heavy place) ≡ Ok out = sym (cond-true (nat_le 1048576 (size + n)) (Err (Heavy place)) (Ok (size + n)) most) ∙ h in absurd cc
      | inr few ↦
          let good : Ok (size + n) ≡ Ok out = sym (cond-false (nat_le 1048576 (size + n)) (Err (Heavy place)) (Ok (size + n)) few) ∙ h in
          let same : size + n ≡ out = cc in
          let lt : size + n < 1048576 = grind (arith, nat_tests) in
          (sym same, omega (arith, same, lt))
    ]

signals_counted : (place : Place) (size : ℕ) (ps : List Placed) (out : ℕ) → size < 1048576 → threaded (signal_counted place) size ps ≡ Ok out → (size + length ps ≤ out) × (out < 1048576)
unfolding threaded
signals_counted place size [] out lt h = let same : size ≡ out = cc in (omega (arith, same), omega (arith, same))
signals_counted place size (p ∷ ps) out lt h =
    let w = width_of (bounds_of p.signal) in
    let f = followed (counted place w size) (λ n. threaded (signal_counted place) n ps) out h in
    let one = counted_is place w size f.value f.there in
    let rest = signals_counted place f.value ps out one.1 f.follows in
    (omega (arith, one.0, rest.0), rest.1)

weighed_is : (place : Place) (boxes signals : ℕ) (q : Plan) (size out : ℕ) → weighed place boxes signals q size ≡ Ok out → (size + length (drop signals q.draft.drawn.signals) ≤ out) × (out < 1048576)
unfolding weighed
weighed_is place boxes signals q size out h =
    let a = followed (counted place (length q.pending) size) _ out h in
    let b = followed (counted place (length q.boxes - boxes) a.value) _ out a.follows in
    let first = counted_is place (length q.pending) size a.value a.there in
    let second = counted_is place (length q.boxes - boxes) a.value b.value b.there in
    let rest = signals_counted place b.value (drop signals q.draft.drawn.signals) out second.1 b.follows in
    (omega (arith, first.0, second.0, rest.0), rest.1)

own_fits : (lib : Lib) (w : Pending) (m : Module) (s t : State) → Fits s → own_placed lib w m s ≡ Ok t → Fits t
unfolding own_placed
own_fits lib w m s t fits h =
    let q = followed (own lib w m s.plan) _ t h in
    let n = followed (weighed w.place (length s.plan.boxes) (length s.plan.draft.drawn.signals) q.value s.size) _ t q.follows in
    let is = weighed_is w.place (length s.plan.boxes) (length s.plan.draft.drawn.signals) q.value s.size n.value n.there in
    let new : State = record { plan = q.value; size = n.value } in
    let same : new ≡ t = cc in
    let few = length-drop (length s.plan.draft.drawn.signals) q.value.draft.drawn.signals in
    subst Fits same (record { signals = omega (arith, is.0, few, fits.signals); below = is.1 })

placed_fits : (lib : Lib) (chain : List ℕ) (w : Pending) (m : Module) (s t : State) → Fits s → placed_in lib chain w m s ≡ Ok t → Fits t
unfolding placed_in
placed_fits lib chain w m s t fits h =
    elim (cases_Bool (list_any (λ k. k == w.position) chain)) [
      | inl again ↦ let bad = sym (cond-true (list_any (λ k. k == w.position) chain) _ (own_placed lib w m s) again) ∙ h in absurd cc
      | inr first ↦ own_fits lib w m s t fits (sym (cond-false (list_any (λ k. k == w.position) chain) _ (own_placed lib w m s) first) ∙ h)
    ]

-- what keeps to this for the instances within one keeps to it for the one
module _ (inner : List ℕ → Pending → State → Or_fault State) (keeps : (chain : List ℕ) (w : Pending) (s t : State) → Fits s → inner chain w s ≡ Ok t → Fits t) (lib : Lib) where
  in_fits : (chain : List ℕ) (w : Pending) (m : Module) (s t : State) → Fits s → grown_in inner lib chain w m s ≡ Ok t → Fits t
  unfolding grown_in
  in_fits chain w m s t fits h =
      let p = followed (placed_in lib chain w m s) _ t h in
      let placed = placed_fits lib chain w m s p.value fits p.there in
      let start : State = record { plan = taken_up p.value.plan; size = p.value.size } in
      threaded_keeps Fits (λ u x. inner (chain ++ w.position ∷ []) x u) (λ u x v is went. keeps (chain ++ w.position ∷ []) x u v is went) start p.value.plan.pending t (record { signals = placed.signals; below = placed.below }) p.follows

  pub at_fits : (chain : List ℕ) (w : Pending) (m : Option Module) (s t : State) → Fits s → grown_at inner lib chain w m s ≡ Ok t → Fits t
  unfolding grown_at
  at_fits chain w None s t fits h = let same : s ≡ t = cc in subst Fits same fits
  at_fits chain w (Some m) s t fits h = in_fits chain w m s t fits h

grown_fits : (n : ℕ) (lib : Lib) (chain : List ℕ) (w : Pending) (s t : State) → Fits s → grown n lib chain w s ≡ Ok t → Fits t
unfolding grown
grown_fits zero lib chain w s t fits h = absurd cc
grown_fits (suc n) lib chain w s t fits h = at_fits (grown n lib) (grown_fits n lib) lib chain w (slice_get lib.modules w.position) s t fits h

pub whole_fits : (lib : Lib) (t : Top) (s : State) → grown_from lib t ≡ Ok s → Fits s
whole_fits lib t s h = grown_fits most_levels lib [] (topmost t.position t.body.name.place) nothing s (record { signals = omega arith; below = omega arith }) h
