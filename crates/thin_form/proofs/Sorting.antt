-- Names in order: there is one order, and a permutation lists the same names.
use Rattle.std.proofs.Common.{◌≡◌, ℕ, Bool, true, false, ◌||◌, List, [], ◌∷◌, refl, sym, ap, subst, ◌∙◌, inl, inr}
use Rattle.std.specs.List.{list_any, AllByRecursion}
use Rattle.std.specs.List.Sorted.{IsPermutation}
use Rattle.std.specs.Str.{bytes_eq}
use Rattle.std.specs.Ordering.{nat_cmp}
use Rattle.std.specs.declared.cmp.Ordering.TheVariants.{Less}
use Rattle.std.specs.Cmp.Lexicographic.{slice_cmp, nat_list_cmp_total}
use Rattle.std.proofs.lemmas.Bool.{cases_Bool, or_cases, or_parts, true_from_ne_false}
use Rattle.std.proofs.lemmas.Cmp.{tied_itself}
use Rattle.std.proofs.lemmas.List.Elements.{All-from_recursion}
use Rattle.std.proofs.lemmas.List.Folds.{list_any_none}
use Rattle.std.proofs.lemmas.List.Sorted.{All-permutation, IsPermutation-sym}
use Rattle.std.proofs.lemmas.Map.Keys.{sorted_head, sorted_tail}
use Rattle.std.proofs.lemmas.Slice.Eq.{bytes_eq-Decides}
use Rattle.thin_form.specs.Design.{IsAscending}
use Rattle.thin_form.specs.Rules.{is_among}

none_passes : {X : Type 0} (p : X → Bool) (xs : List X) → list_any p xs ≡ false → AllByRecursion (λ x. p x ≡ false) xs
none_passes p [] e = tt
none_passes p (x ∷ xs) e = let both = or_parts (p x) (list_any p xs) e in (both.0, none_passes p xs both.1)

any_false : {X : Type 0} (p : X → Bool) (xs ys : List X) → IsPermutation xs ys → list_any p xs ≡ false → list_any p ys ≡ false
any_false p xs ys moved e = list_any_none p ys (All-permutation (λ x. p x ≡ false) xs ys moved (All-from_recursion (λ x. p x ≡ false) xs (none_passes p xs e)))

-- a test passes somewhere wherever the elements stand
pub any_kept : {X : Type 0} (p : X → Bool) (xs ys : List X) → IsPermutation xs ys → list_any p ys ≡ list_any p xs
any_kept p xs ys moved =
    elim (cases_Bool (list_any p xs)) [
      | inl some ↦ true_from_ne_false (list_any p ys) (λ none. let bad = any_false p ys xs (IsPermutation-sym xs ys moved) none in absurd cc) ∙ sym some
      | inr none ↦ any_false p xs ys moved none ∙ sym none
    ]

-- a name above all of these is none of them
not_among : (a : List ℕ) (ns : List (List ℕ)) → AllByRecursion (λ y. slice_cmp nat_cmp a y ≡ Less) ns → is_among a ns ≡ false
not_among a [] above = refl
not_among a (n ∷ ns) above =
    elim (cases_Bool (bytes_eq a n)) [
      | inl same ↦
          let here : slice_cmp nat_cmp a a ≡ Less = subst (λ (x : List ℕ). slice_cmp nat_cmp a x ≡ Less) (sym ((bytes_eq-Decides a n).0 same)) above.0 in
          let tied = tied_itself nat_list_cmp_total a in
          absurd cc
      | inr other ↦ rw other (not_among a ns above.1)
    ]

below_of : (a b : List ℕ) (ns : List (List ℕ)) → AllByRecursion (λ y. slice_cmp nat_cmp a y ≡ Less) ns → is_among b ns ≡ true → slice_cmp nat_cmp a b ≡ Less
below_of a b [] above e = absurd cc
below_of a b (n ∷ ns) above e =
    elim (or_cases (bytes_eq b n) (is_among b ns) e) [
      | inl same ↦ subst (λ (x : List ℕ). slice_cmp nat_cmp a x ≡ Less) (sym ((bytes_eq-Decides b n).0 same)) above.0
      | inr later ↦ below_of a b ns above.1 later
    ]

same_itself : (a : List ℕ) → bytes_eq a a ≡ true
same_itself a = (bytes_eq-Decides a a).1 refl

-- names in order that are the same names are one list
pub one_order : (ns ks : List (List ℕ)) → IsAscending ns → IsAscending ks → ((name : List ℕ) → is_among name ns ≡ is_among name ks) → ns ≡ ks
one_order [] [] up also same = refl
one_order [] (k ∷ ks) up also same = let here = same k in let is : is_among k (k ∷ ks) ≡ true = rw (same_itself k) refl in absurd cc
one_order (n ∷ ns) [] up also same = let here = same n in let is : is_among n (n ∷ ns) ≡ true = rw (same_itself n) refl in absurd cc
one_order (n ∷ ns) (k ∷ ks) up also same =
    let above = sorted_head (slice_cmp nat_cmp) n ns up in
    let over = sorted_head (slice_cmp nat_cmp) k ks also in
    let n_there : is_among n (k ∷ ks) ≡ true = sym (same n) ∙ ap (λ (t : Bool). t || is_among n ns) (same_itself n) in
    let k_here : is_among k (n ∷ ns) ≡ true = same k ∙ ap (λ (t : Bool). t || is_among k ks) (same_itself k) in
    let heads : n ≡ k =
    elim (or_cases (bytes_eq n k) (is_among n ks) n_there) [
      | inl e ↦ (bytes_eq-Decides n k).0 e
      | inr there ↦ elim (or_cases (bytes_eq k n) (is_among k ns) k_here) [
        | inl e ↦ sym ((bytes_eq-Decides k n).0 e)
        | inr here ↦
            let one = below_of k n ks over there in
            let other = below_of n k ns above here in
            let round = nat_list_cmp_total.trans n k n other one in
            let tied = tied_itself nat_list_cmp_total n in
            absurd cc
      ]
    ] in
    let rest : (name : List ℕ) → is_among name ns ≡ is_among name ks = λ name.
    elim (cases_Bool (bytes_eq name n)) [
      | inl e ↦
          let is = (bytes_eq-Decides name n).0 e in
          let not_here : is_among name ns ≡ false = subst (λ (x : List ℕ). is_among x ns ≡ false) (sym is) (not_among n ns above) in
          let not_there : is_among name ks ≡ false = subst (λ (x : List ℕ). is_among x ks ≡ false) (sym (is ∙ heads)) (not_among k ks over) in
          not_here ∙ sym not_there
      | inr other ↦
          let also_other : bytes_eq name k ≡ false = subst (λ (x : List ℕ). bytes_eq name x ≡ false) heads other in
          sym (ap (λ (t : Bool). t || is_among name ns) other) ∙ same name ∙ ap (λ (t : Bool). t || is_among name ks) also_other
    ] in
    let tails = one_order ns ks (sorted_tail (slice_cmp nat_cmp) n ns up) (sorted_tail (slice_cmp nat_cmp) k ks also) rest in
    cc
