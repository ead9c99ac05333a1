-- Modules give at most one flat design: its signals are those of the hierarchy in name order, and no two have one name.
use Rattle.std.proofs.Common.{◌≡◌, ◌⊎◌, ℕ, suc, ◌+◌, ◌<◌, ◌≤◌, Bool, true, false, List, [], ◌∷◌, length, get_or, map, Ok, Err, Ordering, refl, sym, ap, subst, ◌∙◌, inl, inr, arith}
use Rattle.std.specs.List.{AllByRecursion, All}
use Rattle.std.specs.List.Sorted.{IsPermutation, IsSortedBy}
use Rattle.std.specs.Str.{bytes_eq}
use Rattle.std.specs.Ordering.{nat_cmp, is_lt, ordering_reverse}
use Rattle.std.specs.declared.cmp.Ordering.TheVariants.{Less, Equal, Greater}
use Rattle.std.specs.Cmp.Lexicographic.{slice_cmp, nat_list_cmp_total}
use Rattle.std.proofs.lemmas.Bool.{cases_Bool, cond-true, cond-false}
use Rattle.std.specs.FinMap.{slice_cmp-IsAntisymmetric, nat_cmp-IsAntisymmetric}
use Rattle.std.proofs.lemmas.List.Elements.{All-from_recursion, recursion_from_All}
use Rattle.std.proofs.lemmas.List.Sorted.{All-permutation, IsPermutation-sym, IsPermutation-trans}
use Rattle.std.proofs.lemmas.Slice.Eq.{bytes_eq-Decides}
use Rattle.rdc_outside.specs.declared.source.Place.{Place}
use Rattle.design_form.specs.declared.signal.Signal.{Signal}
use Rattle.design_form.specs.declared.parts.Parts.{Parts}
use Rattle.design_form.specs.declared.parts.TopPort.{TopPort}
use Rattle.elab_names.specs.declared.fault.ElabFault.TheVariants.{TwiceDeclared}
use Rattle.elab_names.specs.Answers.{Or_fault}
use Rattle.elab_scopes.specs.declared.placed.Placed.{Placed}
use Rattle.elab_items.specs.Instances.{Lib}
use Rattle.elab_tree.specs.Hierarchy.{State}
use Rattle.elab_tree.specs.Tops.{Top, grown_from, top_of, top_ports}
use Rattle.vlog_elab.specs.Orders.{by_name, repeated, repeated_behind}
use Rattle.vlog_elab.specs.Flat.{Gives, laid, numbered, checked, places_of, finished, flat}
use Rattle.flat_laws.specs.Laws.{IsOneFlat}
use Rattle.flat_laws.proofs.Answers.{followed}
use Rattle.flat_laws.proofs.Small.{numbered_is}

-- ---- lists of the same members in one order

-- one of a list
abbrev IsIn : {X : Type 0} → X → List X → Type 0
IsIn x [] = ⊥
IsIn x (y ∷ ys) = (x ≡ y) ⊎ IsIn x ys

in_tail : {X : Type 0} (y : X) (xs ys : List X) → AllByRecursion (λ x. IsIn x ys) xs → AllByRecursion (λ x. IsIn x (y ∷ ys)) xs
in_tail y [] ys all = tt
in_tail y (x ∷ xs) ys all = (inr all.0, in_tail y xs ys all.1)

all_in : {X : Type 0} (xs : List X) → AllByRecursion (λ x. IsIn x xs) xs
all_in [] = tt
all_in (x ∷ xs) = (inl refl, in_tail x xs xs (all_in xs))

-- a permutation has no other members
moved_in : {X : Type 0} (xs ys : List X) → IsPermutation xs ys → AllByRecursion (λ y. IsIn y xs) ys
moved_in xs ys moved = recursion_from_All (λ y. IsIn y xs) ys (All-permutation (λ y. IsIn y xs) xs ys moved (All-from_recursion (λ y. IsIn y xs) xs (all_in xs)))

-- below all of some
below_in : {X : Type 0} (P : X → Type 0) (y : X) (xs : List X) → AllByRecursion P xs → IsIn y xs → P y
below_in P y [] all h = absurd h
below_in P y (x ∷ xs) all (inl e) = subst P (sym e) all.0
below_in P y (x ∷ xs) all (inr h) = below_in P y xs all.1 h

module _ {X : Type 0} (Below : X → X → Type 0) (apart : (a b : X) → Below a b → Below b a → ⊥) where
  -- each is below all behind it
  abbrev Ascend : List X → Type 0
  Ascend [] = Unit {0}
  Ascend (x ∷ xs) = AllByRecursion (Below x) xs × Ascend xs

  shed : (x y : X) (zs ys : List X) → x ≡ y → AllByRecursion (Below x) zs → AllByRecursion (λ z. IsIn z (y ∷ ys)) zs → AllByRecursion (λ z. IsIn z ys) zs
  shed x y [] ys same up all = tt
  shed x y (z ∷ zs) ys same up all = (elim all.0 [ inl e ↦ absurd (let here : Below x x = subst (Below x) (e ∙ sym same) up.0 in apart x x here here) | inr h ↦ h ], shed x y zs ys same up.1 all.1)

  same_lists : (xs ys : List X) → Ascend xs → Ascend ys → AllByRecursion (λ x. IsIn x ys) xs → AllByRecursion (λ y. IsIn y xs) ys → xs ≡ ys
  same_lists [] [] up also to from = refl
  same_lists [] (y ∷ ys) up also to from = absurd from.0
  same_lists (x ∷ xs) [] up also to from = absurd to.0
  same_lists (x ∷ xs) (y ∷ ys) up also to from =
      let first : x ≡ y = elim to.0 [ inl e ↦ e | inr h ↦ elim from.0 [ inl e ↦ sym e | inr k ↦ absurd (apart x y (below_in (Below x) y xs up.0 k) (below_in (Below y) x ys also.0 h)) ] ] in
      let rest = same_lists xs ys up.1 also.1 (shed x y xs ys first up.0 to.1) (shed y x ys xs (sym first) also.0 from.1) in
      cc

-- ---- signals in name order

same_names : (a b : List ℕ) → slice_cmp nat_cmp a b ≡ Equal → a ≡ b
same_names a b e = slice_cmp-IsAntisymmetric nat_cmp-IsAntisymmetric a b e

abbrev IsBelow : Placed → Placed → Type 0
IsBelow a b = by_name a b ≡ Less

not_both : (a b : Placed) → IsBelow a b → IsBelow b a → ⊥
not_both a b here there =
    let turned : by_name b a ≡ Greater = nat_list_cmp_total.antisymm b.signal.name a.signal.name ∙ ap ordering_reverse here in
    absurd cc

-- neighbours in order that differ
next_below : (a b : Placed) → bytes_eq b.signal.name a.signal.name ≡ false → is_lt (by_name b a) ≡ false → IsBelow a b
next_below a b differ behind = go (by_name a b) refl
  where
    go : (o : Ordering) → by_name a b ≡ o → by_name a b ≡ Less
    go Less e = e
    go Equal e = let same = (bytes_eq-Decides b.signal.name a.signal.name).1 (sym (same_names a.signal.name b.signal.name e)) in absurd cc
    go Greater e =
        let turned : by_name b a ≡ Less = nat_list_cmp_total.antisymm b.signal.name a.signal.name ∙ ap ordering_reverse e in
        let below : is_lt (by_name b a) ≡ true = ap is_lt turned in
        absurd cc

all_below : (w x : Placed) (xs : List Placed) → IsBelow w x → AllByRecursion (IsBelow x) xs → AllByRecursion (IsBelow w) xs
all_below w x [] first all = tt
all_below w x (y ∷ ys) first all = (nat_list_cmp_total.trans w.signal.name x.signal.name y.signal.name first all.0, all_below w x ys first all.1)

abbrev InOrder : List Placed → Type 0
InOrder xs = (k : ℕ) (d : Placed) → k + 1 < length xs → is_lt (by_name (get_or xs (k + 1) d) (get_or xs k d)) ≡ false

in_order_behind : (x : Placed) (xs : List Placed) → InOrder (x ∷ xs) → InOrder xs
in_order_behind x xs up k d lt =
    subst (λ (n : ℕ). is_lt (by_name (get_or (x ∷ xs) n d) (get_or (x ∷ xs) (suc k) d)) ≡ false) (let e : suc k + 1 ≡ suc (k + 1) = omega arith in e) (up (suc k) d (omega arith))

ascend_behind : (x : Placed) (xs : List Placed) → InOrder (x ∷ xs) → repeated_behind x xs ≡ Ok tt → Ascend IsBelow not_both (x ∷ xs)
unfolding repeated_behind
ascend_behind x [] up once = (tt, tt)
ascend_behind x (y ∷ ys) up once =
    elim (cases_Bool (bytes_eq y.signal.name x.signal.name)) [
      | inl same ↦ let bad : Err (TwiceDeclared y.signal.name y.place) ≡ Ok tt = sym (cond-true (bytes_eq y.signal.name x.signal.name) (Err (TwiceDeclared y.signal.name y.place)) (repeated_behind y ys) same) ∙ once in absurd cc
      | inr differ ↦
          let later : repeated_behind y ys ≡ Ok tt = sym (cond-false (bytes_eq y.signal.name x.signal.name) (Err (TwiceDeclared y.signal.name y.place)) (repeated_behind y ys) differ) ∙ once in
          let rest = ascend_behind y ys (in_order_behind x (y ∷ ys) up) later in
          let first = next_below x y differ (up 0 x (omega arith)) in
          ((first, all_below x y ys first rest.0), rest)
    ]

ascend : (xs : List Placed) → InOrder xs → repeated xs ≡ Ok tt → Ascend IsBelow not_both xs
unfolding repeated
ascend [] up once = tt
ascend (x ∷ xs) up once = ascend_behind x xs up once

-- one order of signals that differ
one_order : (ss xs ys : List Placed) → IsPermutation ss xs → IsPermutation ss ys → InOrder xs → InOrder ys → repeated xs ≡ Ok tt → repeated ys ≡ Ok tt → xs ≡ ys
one_order ss xs ys to also up down once again =
    let across = IsPermutation-trans xs ss ys (IsPermutation-sym ss xs to) also in
    same_lists IsBelow not_both xs ys (ascend xs up once) (ascend ys down again) (moved_in ys xs (IsPermutation-sym xs ys across)) (moved_in xs ys across)

-- ---- designs

-- the steps to a flat design
record Steps (lib : Lib) (name : List ℕ) (signals : List Placed) (d : Parts) : Type 0 where
  top : Top
  ports : List TopPort
  state : State
  top_is : top_of lib name ≡ Ok top
  ports_are : top_ports top.body ≡ Ok ports
  state_is : grown_from lib top ≡ Ok state
  once : repeated signals ≡ Ok tt
  is : laid signals ports state.plan ≡ d

steps : (lib : Lib) (name : List ℕ) (d : Parts) (gives : Gives lib name (Ok d)) → Steps lib name gives.signals d
unfolding flat finished
steps lib name d gives =
    let top = followed (top_of lib name) _ d gives.is in
    let ports = followed (top_ports top.value.body) _ d top.follows in
    let s = followed (grown_from lib top.value) _ d ports.follows in
    let apart = followed (repeated gives.signals) _ d s.follows in
    let n = followed (numbered top.value.body.name.place (laid gives.signals ports.value s.value.plan)) _ d apart.follows in
    let c = followed (checked n.value (places_of gives.signals) s.value.size) _ d n.follows in
    let is_d : n.value ≡ d = cc in
    record {
      top = top.value;
      ports = ports.value;
      state = s.value;
      top_is = top.there;
      ports_are = ports.there;
      state_is = s.there;
      once = apart.there;
      is = numbered_is top.value.body.name.place (laid gives.signals ports.value s.value.plan) n.value n.there ∙ is_d;
    }

same_ok : {A : Type 0} (r : Or_fault A) (a b : A) → r ≡ Ok a → r ≡ Ok b → a ≡ b
same_ok r a b x y = let e : Ok a ≡ Ok b = sym x ∙ y in cc

pub one_flat : IsOneFlat
one_flat lib name a b x y =
    let p = steps lib name a x in
    let q = steps lib name b y in
    let top = same_ok (top_of lib name) p.top q.top p.top_is q.top_is in
    let ports = same_ok (top_ports q.top.body) p.ports q.ports (subst (λ (t : Top). top_ports t.body ≡ Ok p.ports) top p.ports_are) q.ports_are in
    let state = same_ok (grown_from lib q.top) p.state q.state (subst (λ (t : Top). grown_from lib t ≡ Ok p.state) top p.state_is) q.state_is in
    let here = x.order p.top p.ports p.state p.top_is p.ports_are p.state_is in
    let there = y.order q.top q.ports q.state q.top_is q.ports_are q.state_is in
    let moved = subst (λ (s : State). IsPermutation s.plan.draft.drawn.signals x.signals) state here.same in
    let signals = one_order q.state.plan.draft.drawn.signals x.signals y.signals moved there.same (λ k d lt. here.sorted k d (omega arith) lt) (λ k d lt. there.sorted k d (omega arith) lt) p.once q.once in
    sym p.is ∙ ap (λ (ss : List Placed). laid ss p.ports p.state.plan) signals ∙ ap (λ (ps : List TopPort). laid y.signals ps p.state.plan) ports ∙ ap (λ (s : State). laid y.signals q.ports s.plan) state ∙ q.is
