-- Where copies lead: twice as many steps, and names that are no target stay.
use Rattle.std.proofs.Common.{◌≡◌, ℕ, zero, suc, ◌+◌, ◌-◌, ◌*◌, ◌^◌, ◌≤◌, List, [], ◌∷◌, map, slice_get, Option, Some, None, refl, sym, ap, ◌∙◌, inl, inr, arith}
use Rattle.std.specs.Str.{bytes_eq}
use Rattle.std.specs.Option.{option_map, unwrap_or}
use Rattle.std.proofs.lemmas.Bool.{cases_Bool, cond-true, cond-false}
use Rattle.std.proofs.lemmas.Option.{slice_get-map}
use Rattle.std.proofs.lemmas.Nat.{pow-add}
use Rattle.std.proofs.lemmas.Simd.{map-map}
use Rattle.std.proofs.lemmas.Slice.Eq.{bytes_eq-Decides}
use Rattle.design_form.specs.Numbers.{index_from, index_of}
use Rattle.thin_tree.specs.Copies.{Copy, targets, sources, at_place, led, step, walk, most_steps, root}

-- the name stands where it is found
found-at : (k : ℕ) (ns : List (List ℕ)) (name : List ℕ) (i : ℕ) → index_from k ns name ≡ Some i → (k ≤ i) × (slice_get ns (i - k) ≡ Some name)
unfolding index_from
found-at k [] name i e = absurd cc
found-at k (n ∷ ns) name i e =
    elim (cases_Bool (bytes_eq name n)) [
      | inl same ↦
          let here : Some k ≡ Some i = sym (cond-true (bytes_eq name n) (Some k) (index_from (k + 1) ns name) same) ∙ e in
          let is : k ≡ i = cc in
          let none : i - k ≡ 0 = omega arith in
          (omega arith, ap (slice_get (n ∷ ns)) none ∙ ap (λ (x : List ℕ). Some x) (sym ((bytes_eq-Decides name n).0 same)))
      | inr other ↦
          let later : index_from (k + 1) ns name ≡ Some i = sym (cond-false (bytes_eq name n) (Some k) (index_from (k + 1) ns name) other) ∙ e in
          let rest = found-at (k + 1) ns name i later in
          let least = rest.0 in
          let one : i - k ≡ suc (i - (k + 1)) = omega arith in
          (omega arith, ap (slice_get (n ∷ ns)) one ∙ rest.1)
    ]

pub walk-one : (cs : List Copy) (name : List ℕ) → walk cs 1 name ≡ step cs name
unfolding walk
walk-one cs name = refl

walk-plus : (cs : List Copy) (m n : ℕ) (name : List ℕ) → walk cs (m + n) name ≡ walk cs n (walk cs m name)
unfolding walk
walk-plus cs zero n name = ap (λ (k : ℕ). walk cs k name) (let e : 0 + n ≡ n = omega arith in e)
walk-plus cs (suc m) n name = ap (λ (k : ℕ). walk cs k name) (let e : suc m + n ≡ suc (m + n) = omega arith in e) ∙ walk-plus cs m n (step cs name)

-- a name without a step stays
walk-stays : (cs : List Copy) (n : ℕ) (name : List ℕ) → step cs name ≡ name → walk cs n name ≡ name
unfolding walk
walk-stays cs zero name h = refl
walk-stays cs (suc n) name h = ap (walk cs n) h ∙ walk-stays cs n name h

step-nowhere : (cs : List Copy) (name : List ℕ) → index_of (targets cs) name ≡ None → step cs name ≡ name
unfolding at_place
step-nowhere cs name h = ap (at_place (sources cs) name) h

-- where the ends are those of n steps, a name is led as far
pub led-walks : (cs : List Copy) (n : ℕ) (ends : List (List ℕ)) (name : List ℕ) → ends ≡ map (walk cs n) (targets cs) → led (targets cs) ends name ≡ walk cs n name
unfolding at_place
led-walks cs n ends name h = go (index_of (targets cs) name) refl
  where
    go : (o : Option ℕ) → index_of (targets cs) name ≡ o → at_place ends name (index_of (targets cs) name) ≡ walk cs n name
    go None e = ap (at_place ends name) e ∙ sym (walk-stays cs n name (step-nowhere cs name e))
    go (Some i) e =
        let at = found-at 0 (targets cs) name i e in
        let none : i - 0 ≡ i = omega arith in
        let there : slice_get (targets cs) i ≡ Some name = ap (slice_get (targets cs)) (sym none) ∙ at.1 in
        ap (at_place ends name) e ∙ ap (λ (xs : List (List ℕ)). unwrap_or (slice_get xs i) name) h
        ∙ ap (λ (o : Option (List ℕ)). unwrap_or o name) (slice_get-map (walk cs n) (targets cs) i ∙ ap (option_map (walk cs n)) there)

same-map : {A B : Type 0} (f g : A → B) (xs : List A) → ((x : A) → f x ≡ g x) → map f xs ≡ map g xs
same-map f g [] h = refl
same-map f g (x ∷ xs) h = let rest = same-map f g xs h in let first = h x in cc

-- the first ends are those of one step
pub one-step : (cs : List Copy) (t : List ℕ → Option ℕ) → t ≡ index_of (targets cs) → map (λ e. at_place (sources cs) e (t e)) (targets cs) ≡ map (walk cs (2 ^ 0)) (targets cs)
unfolding walk
one-step cs t at = ap (λ (f : List ℕ → Option ℕ). map (λ e. at_place (sources cs) e (f e)) (targets cs)) at

pow_double : (k : ℕ) → 2 ^ (k + 1) ≡ 2 ^ k + 2 ^ k
pow_double k = let e : 2 ^ (k + 1) ≡ 2 ^ k * 2 = pow-add 2 k 1 in omega (arith, e)

-- twice as many steps
pub doubled-walks : (cs : List Copy) (t : List ℕ → Option ℕ) (k : ℕ) (ends : List (List ℕ)) → t ≡ index_of (targets cs) → ends ≡ map (walk cs (2 ^ k)) (targets cs) → map (λ e. at_place ends e (t e)) ends ≡ map (walk cs (2 ^ (k + 1))) (targets cs)
doubled-walks cs t k ends at h =
    let n = 2 ^ k in
    let twice : n + n ≡ 2 ^ (k + 1) = sym (pow_double k) in
    ap (λ (f : List ℕ → Option ℕ). map (λ e. at_place ends e (f e)) ends) at ∙
    same-map (λ (e : List ℕ). at_place ends e (index_of (targets cs) e)) (walk cs n) ends (λ e. led-walks cs n ends e h)
    ∙ ap (map (walk cs n)) h
    ∙ map-map (walk cs n) (walk cs n) (targets cs)
    ∙ same-map (λ (t : List ℕ). walk cs n (walk cs n t)) (walk cs (n + n)) (targets cs) (λ x. sym (walk-plus cs n n x))
    ∙ ap (λ (m : ℕ). map (walk cs m) (targets cs)) twice

-- where a table has the places of the targets, and the ends are those of all steps, a name is led to its root
pub ends-lead : (cs : List Copy) (ends : List (List ℕ)) (places : List ℕ → Option ℕ) (name : List ℕ) → places ≡ index_of (targets cs) → ends ≡ map (walk cs most_steps) (targets cs) → at_place ends name (places name) ≡ root cs name
unfolding root
ends-lead cs ends places name at h = ap (λ (f : List ℕ → Option ℕ). at_place ends name (f name)) at ∙ led-walks cs most_steps ends name h
