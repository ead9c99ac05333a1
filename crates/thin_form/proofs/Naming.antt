-- A name and its place among names in order.
use Rattle.std.proofs.Common.{◌≡◌, ◌≢◌, ℕ, zero, suc, ◌<◌, Bool, true, false, ◌||◌, List, [], ◌∷◌, length, get_or, map, refl, sym, ap, subst, ◌∙◌, inl, inr, add_comm, add-one, arith}
use Rattle.std.specs.List.{IsDistinct}
use Rattle.std.specs.Str.{bytes_eq}
use Rattle.std.specs.Ordering.{nat_cmp}
use Rattle.std.specs.Cmp.Lexicographic.{slice_cmp, texts_ties}
use Rattle.std.proofs.lemmas.Bool.{cases_Bool, false_from_ne_true}
use Rattle.std.proofs.lemmas.Cmp.{nat_list_eq_equiv}
use Rattle.std.proofs.lemmas.List.Elements.{All-from_recursion}
use Rattle.std.proofs.lemmas.Map.Keys.{IsDistinct-from_sorted, IsDistinct-head, IsDistinct-tail}
use Rattle.std.proofs.lemmas.Slice.Eq.{bytes_eq-Decides}
use Rattle.thin_form.specs.Design.{IsAscending}
use Rattle.thin_form.specs.Meaning.{place}
use Rattle.thin_form.specs.Rules.{is_among}

-- names that ascend are distinct
pub distinct_names : (ns : List (List ℕ)) → IsAscending ns → IsDistinct bytes_eq ns
distinct_names ns up = subst (λ (e : List ℕ → List ℕ → Bool). IsDistinct e ns) (λ i. λ x y. sym (texts_ties x y) i) (IsDistinct-from_sorted (slice_cmp nat_cmp) ns up)

pub eq_sym : (a b : List ℕ) → bytes_eq a b ≡ bytes_eq b a
eq_sym a b = nat_list_eq_equiv.symm a b

pub eq_same : (a b : List ℕ) → a ≡ b → bytes_eq a b ≡ true
eq_same a b e = (bytes_eq-Decides a b).1 e

pub same_eq : (a b : List ℕ) → bytes_eq a b ≡ true → a ≡ b
same_eq a b e = (bytes_eq-Decides a b).0 e

pub place_at : (ns : List (List ℕ)) (n : ℕ) (name : List ℕ) → IsDistinct bytes_eq ns → n < length ns → get_or ns n [] ≡ name → place ns name ≡ n
place_at [] n name apart lt is = absurd (omega arith)
place_at (k ∷ ks) zero name apart lt is = rw (eq_same k name is) refl
place_at (k ∷ ks) (suc n) name apart lt is =
    let within : n < length ks = omega arith in
    let other : bytes_eq k name ≡ false = subst (λ (y : List ℕ). bytes_eq k y ≡ false) is (All-from_recursion (λ y. bytes_eq k y ≡ false) ks (IsDistinct-head bytes_eq k ks apart) n [] within) in
    rw other (omega (arith, place_at ks n name (IsDistinct-tail bytes_eq k ks apart) within is))

or_true : (b : Bool) → (b || true) ≡ true
or_true true = refl
or_true false = refl

pub among_at : (ns : List (List ℕ)) (n : ℕ) (name : List ℕ) → n < length ns → get_or ns n [] ≡ name → is_among name ns ≡ true
among_at [] n name lt is = absurd (omega arith)
among_at (k ∷ ks) zero name lt is = rw (eq_same name k (sym is)) refl
among_at (k ∷ ks) (suc n) name lt is = rw (among_at ks n name (omega arith) is) (or_true (bytes_eq name k))

pub among_nowhere : (ns : List (List ℕ)) (name : List ℕ) → ((n : ℕ) → n < length ns → get_or ns n [] ≢ name) → is_among name ns ≡ false
among_nowhere [] name none = refl
among_nowhere (k ∷ ks) name none =
    let here : bytes_eq name k ≡ false = false_from_ne_true (bytes_eq name k) (λ same. none 0 (omega arith) (sym (same_eq name k same))) in
    rw here (among_nowhere ks name (λ n lt. none (suc n) (omega arith)))

-- a name that is among some stands at its place
pub place_lt : (ns : List (List ℕ)) (name : List ℕ) → is_among name ns ≡ true → place ns name < length ns
place_lt [] name e = absurd cc
place_lt (n ∷ ns) name e =
    elim (cases_Bool (bytes_eq n name)) [
      | inl same ↦ rw same (omega arith)
      | inr other ↦
          let later : is_among name ns ≡ true = ap (λ (t : Bool). t || is_among name ns) (sym (eq_sym name n ∙ other)) ∙ e in
          let lt = place_lt ns name later in
          rw other (omega arith)
    ]

pub get_place : {X : Type 0} (h : List ℕ → X) (ns : List (List ℕ)) (name : List ℕ) (d : X) → is_among name ns ≡ true → get_or (map h ns) (place ns name) d ≡ h name
get_place h [] name d e = absurd cc
get_place h (n ∷ ns) name d e =
    elim (cases_Bool (bytes_eq n name)) [
      | inl same ↦ rw same (ap h (same_eq n name same))
      | inr other ↦
          let later : is_among name ns ≡ true = ap (λ (t : Bool). t || is_among name ns) (sym (eq_sym name n ∙ other)) ∙ e in
          rw (other, add_comm 1 (place ns name), add-one) (get_place h ns name d later)
    ]

map_itself : (ns : List (List ℕ)) → map (λ (n : List ℕ). n) ns ≡ ns
map_itself [] = refl
map_itself (n ∷ ns) = ap (λ (r : List (List ℕ)). n ∷ r) (map_itself ns)

-- the name at the place of a name
pub name_at_place : (ns : List (List ℕ)) (name : List ℕ) → is_among name ns ≡ true → get_or ns (place ns name) [] ≡ name
name_at_place ns name there = ap (λ (ks : List (List ℕ)). get_or ks (place ns name) []) (sym (map_itself ns)) ∙ get_place (λ n. n) ns name [] there

-- names at one place are one
pub one_place : (ns : List (List ℕ)) (a b : List ℕ) → is_among a ns ≡ true → is_among b ns ≡ true → place ns a ≡ place ns b → a ≡ b
one_place ns a b here there same = sym (name_at_place ns a here) ∙ ap (λ (k : ℕ). get_or ns k []) same ∙ name_at_place ns b there
