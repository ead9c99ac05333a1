-- Lists of numbers with the same members, each once, are permutations.
use Rattle.std.proofs.Common.{◌≡◌, inl, inr, ℕ, ◌+◌, ◌<◌, ◌≤◌, List, [], ◌∷◌, ◌++◌, length, get_or, map, refl, sym, ap, subst, ◌∙◌, append_assoc, arith}
use Rattle.std.specs.List.Sorted.{IsPermutation}
use Rattle.std.proofs.lemmas.List.{length-append}
use Rattle.std.proofs.lemmas.List.Sorted.{IsPermutation-refl, IsPermutation-sym, IsPermutation-cons, IsPermutation-trans, IsPermutation-middle, IsPermutation-map}
use Rattle.thin_form.specs.Walk.{IsIn, IsReadyAfter, IsOrder}
use Rattle.thin_form.proofs.Walks.{AreApart, same_or_not, in_left, in_right, in_either}

-- a list around one of its members
record IsAround (x : ℕ) (ys : List ℕ) : Type 0 where
  front : List ℕ
  back : List ℕ
  parts : ys ≡ front ++ x ∷ back

around : (x : ℕ) (ys : List ℕ) → IsIn x ys → IsAround x ys
around x [] h = absurd h
around x (y ∷ ys) (inl e) = record { front = []; back = ys; parts = ap (λ (z : ℕ). z ∷ ys) (sym e) }
around x (y ∷ ys) (inr h) = let rest = around x ys h in record { front = y ∷ rest.front; back = rest.back; parts = ap (λ (zs : List ℕ). y ∷ zs) rest.parts }

apart_without : (xs : List ℕ) (x : ℕ) (ys : List ℕ) → AreApart (xs ++ x ∷ ys) → AreApart (xs ++ ys) × (IsIn x (xs ++ ys) → ⊥)
apart_without [] x ys apart = (apart.1, apart.0)
apart_without (w ∷ xs) x ys apart =
    let rest = apart_without xs x ys apart.1 in (
      ((λ h. apart.0 (elim (in_either xs ys w h) [ inl there ↦ in_left xs (x ∷ ys) w there | inr there ↦ in_right xs (x ∷ ys) w (inr there) ])), rest.0),
      λ h. elim h [ inl e ↦ apart.0 (in_right xs (x ∷ ys) w (inl (sym e))) | inr there ↦ rest.1 there ],
    )

pub same_members : (xs ys : List ℕ) → AreApart xs → AreApart ys → ((v : ℕ) → IsIn v xs → IsIn v ys) → ((v : ℕ) → IsIn v ys → IsIn v xs) → IsPermutation xs ys
same_members [] [] apart also to from = IsPermutation-refl []
same_members [] (y ∷ ys) apart also to from = absurd (from y (inl refl))
same_members (x ∷ xs) ys apart also to from =
    let at = around x ys (to x (inl refl)) in
    let rest = at.front ++ at.back in
    let without = apart_without at.front x at.back (subst AreApart at.parts also) in
    let moved : IsPermutation ys (x ∷ rest) = subst (λ (zs : List ℕ). IsPermutation zs (x ∷ rest)) (sym at.parts) (IsPermutation-middle at.front x at.back) in
    let go : IsPermutation xs rest = same_members xs rest apart.1 without.0
    (λ v h. elim (in_either at.front (x ∷ at.back) v (subst (IsIn v) at.parts (to v (inr h)))) [
      | inl there ↦ in_left at.front at.back v there
      | inr there ↦ elim there [ inl e ↦ absurd (apart.0 (subst (λ (z : ℕ). IsIn z xs) e h)) | inr later ↦ in_right at.front at.back v later ]
    ])
    (λ v h.
    let in_ys : IsIn v ys = subst (IsIn v) (sym at.parts) (elim (in_either at.front at.back v h) [ inl there ↦ in_left at.front (x ∷ at.back) v there | inr there ↦ in_right at.front (x ∷ at.back) v (inr there) ]) in
    elim (from v in_ys) [ inl e ↦ absurd (without.1 (subst (λ (z : ℕ). IsIn z rest) e h)) | inr there ↦ there ])
    in
    IsPermutation-trans (x ∷ xs) (x ∷ rest) ys (IsPermutation-cons x xs rest go) (IsPermutation-sym ys (x ∷ rest) moved)

-- ---- the places of a list

pub places : {X : Type 0} → ℕ → List X → List ℕ
places k [] = []
places k (x ∷ xs) = k ∷ places (k + 1) xs

place_range : {X : Type 0} (k v : ℕ) (xs : List X) → IsIn v (places k xs) → (k ≤ v) × (v < k + length xs)
unfolding places
place_range k v [] h = absurd h
place_range k v (x ∷ xs) (inl e) = (omega arith, omega arith)
place_range k v (x ∷ xs) (inr h) = let rest = place_range (k + 1) v xs h in (omega (arith, rest.0), omega (arith, rest.1))

in_places : {X : Type 0} (k v : ℕ) (xs : List X) → k ≤ v → v < k + length xs → IsIn v (places k xs)
unfolding places
in_places k v [] low high = absurd (omega arith)
in_places k v (x ∷ xs) low high = elim (same_or_not v k) [ inl e ↦ inl e | inr ne ↦ inr (in_places (k + 1) v xs (omega (arith, ne)) (omega arith)) ]

places_apart : {X : Type 0} (k : ℕ) (xs : List X) → AreApart (places k xs)
unfolding places
places_apart k [] = tt
places_apart k (x ∷ xs) = ((λ h. absurd (omega (arith, (place_range (k + 1) k xs h).0))), places_apart (k + 1) xs)

get_middle : {X : Type 0} (pre : List X) (x : X) (xs : List X) (d : X) → get_or (pre ++ x ∷ xs) (length pre) d ≡ x
get_middle [] x xs d = refl
get_middle (p ∷ pre) x xs d = get_middle pre x xs d

each_place : {X : Type 0} (pre xs : List X) (d : X) → map (λ w. get_or (pre ++ xs) w d) (places (length pre) xs) ≡ xs
unfolding places
each_place pre [] d = refl
each_place {X = X} pre (x ∷ xs) d =
    let first = get_middle pre x xs d in
    let len : length (pre ++ x ∷ []) ≡ length pre + 1 = length-append pre (x ∷ []) in
    let whole : (pre ++ x ∷ []) ++ xs ≡ pre ++ x ∷ xs = append_assoc pre (x ∷ []) xs in
    let rest : map (λ w. get_or (pre ++ x ∷ xs) w d) (places (length pre + 1) xs) ≡ xs =
    ap (λ (k : ℕ). map (λ w. get_or (pre ++ x ∷ xs) w d) (places k xs)) (sym len)
    ∙ ap (λ (ys : List X). map (λ w. get_or ys w d) (places (length (pre ++ x ∷ [])) xs)) (sym whole)
    ∙ each_place (pre ++ x ∷ []) xs d in
    cc

-- ---- an order is a permutation

pub later_is_new : (rs : List (List ℕ)) (done ws : List ℕ) (v : ℕ) → IsReadyAfter rs done ws → IsIn v done → IsIn v ws → ⊥
later_is_new rs done [] v ready there h = h
later_is_new rs done (w ∷ ws) v ready there (inl e) = ready.0 (subst (λ (x : ℕ). IsIn x done) e there)
later_is_new rs done (w ∷ ws) v ready there (inr h) = later_is_new rs (w ∷ done) ws v ready.2 (inr there) h

order_apart : (rs : List (List ℕ)) (done ws : List ℕ) → IsReadyAfter rs done ws → AreApart ws
order_apart rs done [] ready = tt
order_apart rs done (w ∷ ws) ready = (λ h. later_is_new rs (w ∷ done) ws w ready.2 (inl refl) h, order_apart rs (w ∷ done) ws ready.2)

-- what stands at the places of an order is the list, in another order
pub ordered_list : {X : Type 0} (rs : List (List ℕ)) (order : List ℕ) (xs : List X) (d : X) → length xs ≡ length rs → IsOrder rs order → IsPermutation xs (map (λ w. get_or xs w d) order)
ordered_list {X = X} rs order xs d count is =
    let same = same_members (places 0 xs) order (places_apart 0 xs) (order_apart rs [] order is.ready)
    (λ v h. is.all v (omega (arith, (place_range 0 v xs h).1, count)))
    (λ v h. in_places 0 v xs (omega arith) (omega (arith, is.within v h, count))) in
    subst (λ (ys : List X). IsPermutation ys (map (λ w. get_or xs w d) order)) (each_place [] xs d) (IsPermutation-map (λ w. get_or xs w d) (places 0 xs) order same)
