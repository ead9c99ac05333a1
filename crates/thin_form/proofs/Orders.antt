-- Things in name order: what a sort and a look at neighbours say.
use Rattle.std.proofs.Common.{◌≡◌, ℕ, ◌+◌, ◌<◌, Bool, true, false, List, [], ◌∷◌, length, get_or, map, Ordering, refl, sym, ap, ◌∙◌, arith}
use Rattle.std.specs.Prelude.{IsTrue, ◌↔◌}
use Rattle.std.specs.List.{IsDistinct, IsAllAdjacentAnswer}
use Rattle.std.specs.List.Sorted.{IsPermutation, IsSortedByKey}
use Rattle.std.specs.Str.{bytes_eq}
use Rattle.std.specs.Ordering.{nat_cmp, is_lt, ordering_reverse}
use Rattle.std.specs.declared.cmp.Ordering.TheVariants.{Less, Equal, Greater}
use Rattle.std.specs.Cmp.Lexicographic.{slice_cmp, nat_list_cmp_total}
use Rattle.std.proofs.lemmas.Cmp.{nat_list_eq_equiv}
use Rattle.std.proofs.lemmas.List.{length-map, get_or-map}
use Rattle.std.proofs.lemmas.List.Sorted.{IsPermutation-map}
use Rattle.std.proofs.lemmas.Map.Keys.{Less-from_sorted, sorted_from_all_adjacent, IsDistinct-IsPermutation, apart_from_distinct}
use Rattle.std.proofs.lemmas.Slice.Eq.{bytes_eq-Decides}
use Rattle.thin_form.specs.Design.{IsAscending}
use Rattle.thin_form.proofs.Search.{same_names}

less_from : (o : Ordering) → is_lt o ≡ true → o ≡ Less
less_from Less e = refl
less_from Equal e = absurd cc
less_from Greater e = absurd cc

name_at_place : {X : Type 0} (name_of : X → List ℕ) (cs : List X) (k : ℕ) (c : X) → k < length cs → get_or (map name_of cs) k (name_of c) ≡ name_of (get_or cs k c)
name_at_place name_of cs k c lt = get_or-map name_of cs k c (name_of c) lt

-- neighbours that ascend make a list that ascends
from_neighbours : {X : Type 0} (name_of : X → List ℕ) (cs : List X) → ((k : ℕ) (d : X) → k + 1 < length cs → slice_cmp nat_cmp (name_of (get_or cs k d)) (name_of (get_or cs (k + 1) d)) ≡ Less) → IsAscending (map name_of cs)
from_neighbours name_of [] near = sorted_from_all_adjacent nat_list_cmp_total [] [] (λ k lt. absurd (omega arith))
from_neighbours name_of (c ∷ cs) near =
    sorted_from_all_adjacent nat_list_cmp_total (map name_of (c ∷ cs)) (name_of c) (λ k lt.
    let within : k + 1 < length (c ∷ cs) = omega (arith, length-map (c ∷ cs) name_of) in
    let first = name_at_place name_of (c ∷ cs) k c (omega arith) in
    let next = name_at_place name_of (c ∷ cs) (k + 1) c within in
    rw (first, next) (near k c within))

to_neighbours : {X : Type 0} (name_of : X → List ℕ) (cs : List X) (k : ℕ) (d : X) → IsAscending (map name_of cs) → k + 1 < length cs → slice_cmp nat_cmp (name_of (get_or cs k d)) (name_of (get_or cs (k + 1) d)) ≡ Less
to_neighbours name_of cs k d up lt =
    let less = Less-from_sorted (slice_cmp nat_cmp) (map name_of cs) k (k + 1) (name_of d) up (omega arith) (omega (arith, length-map cs name_of)) in
    let first = name_at_place name_of cs k d (omega arith) in
    let next = name_at_place name_of cs (k + 1) d lt in
    rw (← first, ← next) less

pub ascending_if : {X : Type 0} (name_of : X → List ℕ) (cs : List X) (r : Bool) → IsAllAdjacentAnswer (λ x y b. b ≡ is_lt (slice_cmp nat_cmp (name_of x) (name_of y))) cs r → IsTrue r ↔ IsAscending (map name_of cs)
ascending_if name_of cs true near = (λ _. from_neighbours name_of cs (λ k d lt. less_from _ (sym (near k d lt))), λ _. refl)
ascending_if name_of [] false near = (λ e. absurd cc, λ up. let lt = near.1 in absurd (omega arith))
ascending_if name_of (c ∷ cs) false near =
    (λ e. absurd cc, λ up. let here = near.2 c in let less = to_neighbours name_of (c ∷ cs) near.0 c up near.1 in let bad : false ≡ true = here ∙ ap is_lt less in absurd cc)

flipped : (a b : List ℕ) → slice_cmp nat_cmp a b ≡ Greater → slice_cmp nat_cmp b a ≡ Less
flipped a b e = nat_list_cmp_total.antisymm b a ∙ ap ordering_reverse e

-- names that are in order and differ ascend
neighbours_less : (a b : List ℕ) → bytes_eq a b ≡ false → is_lt (slice_cmp nat_cmp b a) ≡ false → slice_cmp nat_cmp a b ≡ Less
neighbours_less a b apart not_below = go (slice_cmp nat_cmp a b) refl
  where
    go : (o : Ordering) → slice_cmp nat_cmp a b ≡ o → slice_cmp nat_cmp a b ≡ Less
    go Less e = e
    go Equal e = let same = (bytes_eq-Decides a b).1 (same_names a b e) in absurd cc
    go Greater e = let below : is_lt (slice_cmp nat_cmp b a) ≡ true = ap is_lt (flipped a b e) in absurd cc

-- what is sorted by distinct names ascends
pub sorted_ascends : {X : Type 0} (name_of : X → List ℕ) (cs : List X) → IsSortedByKey name_of (slice_cmp nat_cmp) cs → IsDistinct bytes_eq (map name_of cs) → IsAscending (map name_of cs)
sorted_ascends name_of cs sorted apart = from_neighbours name_of cs (λ k d lt.
    let first = name_at_place name_of cs k d (omega arith) in
    let next = name_at_place name_of cs (k + 1) d lt in
    let differ : bytes_eq (name_of (get_or cs k d)) (name_of (get_or cs (k + 1) d)) ≡ false = rw (← first, ← next) (apart_from_distinct bytes_eq (map name_of cs) k (k + 1) (name_of d) apart (omega arith) (omega (arith, length-map cs name_of))) in
    neighbours_less (name_of (get_or cs k d)) (name_of (get_or cs (k + 1) d)) differ (sorted k d (omega arith) lt))

-- in another order names are as distinct
pub distinct_moved : {X : Type 0} (name_of : X → List ℕ) (xs ys : List X) → IsPermutation xs ys → IsDistinct bytes_eq (map name_of xs) → IsDistinct bytes_eq (map name_of ys)
distinct_moved name_of xs ys p apart = IsDistinct-IsPermutation bytes_eq nat_list_eq_equiv.symm (map name_of xs) (map name_of ys) (IsPermutation-map name_of xs ys p) apart
