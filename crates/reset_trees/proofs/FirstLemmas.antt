-- Serves specs/Reads.antt: the first by name of sources that are looked at one after another.
use Rattle.std.proofs.Common.{◌≡◌, ◌⊎◌, inl, inr, ℕ, zero, suc, ◌+◌, ◌<◌, ◌≤◌, Bool, true, false, List, [], ◌∷◌, length, Option, Some, None, sym, subst, ap, refl, ◌∙◌, arith}
use Rattle.std.specs.Prelude.{MatchOption, IfSome, slice_index_or}
use Rattle.std.specs.Ordering.{nat_cmp, is_lt, ordering_reverse}
use Rattle.std.specs.declared.cmp.Ordering.{Ordering}
use Rattle.std.specs.declared.cmp.Ordering.TheVariants.{Less, Equal, Greater}
use Rattle.std.specs.Cmp.Lexicographic.{slice_cmp}
use Rattle.std.proofs.lemmas.Cmp.{nat_list_cmp_total}
use Rattle.std.proofs.lemmas.Map.Lookups.{exact_bytes}
use Rattle.net_view.specs.PinOrder.{IsNamedBefore, name_of}
use Rattle.reset_trees.specs.Reads.{IsFirst}
use Rattle.reset_trees.specs.Tables.{IsMarked}

is_less : (o : Ordering) → is_lt o ≡ true → o ≡ Less
is_less Less h = refl
is_less Equal h = absurd cc
is_less Greater h = absurd cc

-- names in order, one behind another
pub named_through : (names : List (List ℕ)) (a b c : ℕ) → IsNamedBefore names a b → IsNamedBefore names b c → IsNamedBefore names a c
named_through names a b c h k =
    let x = name_of names a in
    let y = name_of names b in
    let z = name_of names c in
    let R = slice_cmp nat_cmp in
    elim h [
      | inl lt ↦ elim k [
        | inl below ↦ inl (ap is_lt (nat_list_cmp_total.trans x y z (is_less (R x y) lt) (is_less (R y z) below)))
        | inr same ↦ inl (subst (λ (w : List ℕ). is_lt (R x w) ≡ true) same.0 lt)
      ]
      | inr same ↦ elim k [
        | inl below ↦ inl (subst (λ (w : List ℕ). is_lt (R w z) ≡ true) (sym same.0) below)
        | inr other ↦ inr (same.0 ∙ other.0, omega (arith, same.1, other.1))
      ]
    ]

later_or : (x y : List ℕ) (o : Ordering) → o ≡ slice_cmp nat_cmp x y → is_lt o ≡ false → (is_lt (slice_cmp nat_cmp y x) ≡ true) ⊎ (y ≡ x)
later_or x y Less is h = absurd cc
later_or x y Equal is h = inr (sym (exact_bytes x y (sym is)))
later_or x y Greater is h = inl (ap is_lt (nat_list_cmp_total.antisymm y x ∙ ap ordering_reverse (sym is)))

-- where the name of a doesn't come before that of b, a source of a lower number, b comes first
pub named_other : (names : List (List ℕ)) (a b : ℕ) → b < a → is_lt (slice_cmp nat_cmp (name_of names a) (name_of names b)) ≡ false → IsNamedBefore names b a
named_other names a b low h = elim (later_or (name_of names a) (name_of names b) _ refl h) [ inl lt ↦ inl lt | inr same ↦ inr (same, low) ]

-- marked, and below a bound
abbrev pub IsMarkedBelow : List Bool → ℕ → ℕ → Type 0
IsMarkedBelow marks bound s = (s < bound) × IsMarked marks s

-- the first of the marked sources below a bound
abbrev pub IsBest : List (List ℕ) → List Bool → ℕ → Option ℕ → Type 0
IsBest names marks bound best = MatchOption best ((s : ℕ) → IsMarkedBelow marks bound s → ⊥) (λ b. IsFirst names (IsMarkedBelow marks bound) b)

-- the better of the best and of a further source
abbrev pub IsBetter : List (List ℕ) → Option ℕ → ℕ → Option ℕ → Type 0
IsBetter names best s result = MatchOption best (result ≡ Some s) (λ b. ((result ≡ Some s) × IsNamedBefore names s b) ⊎ ((result ≡ Some b) × IsNamedBefore names b s))

below_or : (s t : ℕ) → t < s + 1 → (t < s) ⊎ (t ≡ s)
below_or s t lt = grind arith

pub best_none : (names : List (List ℕ)) (marks : List Bool) → IsBest names marks 0 None
best_none names marks = λ s h. absurd (omega (arith, h.0))

-- a source that isn't marked
pub best_skip : (names : List (List ℕ)) (marks : List Bool) (s : ℕ) (best : Option ℕ) → slice_index_or marks s false ≡ false → IsBest names marks s best → IsBest names marks (s + 1) best
best_skip names marks s best unmarked = elim best as (λ o. IsBest names marks s o → IsBest names marks (s + 1) o) [
  | None ↦ λ none t h. none t (lower t h)
  | Some b ↦ λ is. record {
    member = (omega (arith, is.member.0), is.member.1);
    first = λ t h. is.first t (lower t h);
  }
]
  where
    lower : (t : ℕ) → IsMarkedBelow marks (s + 1) t → IsMarkedBelow marks s t
    lower t h = elim (below_or s t h.0) [
      | inl lt ↦ (lt, h.1)
      | inr same ↦ let e : false ≡ true = sym unmarked ∙ subst (λ (j : ℕ). slice_index_or marks j false ≡ true) same h.1 in absurd cc
    ]

-- one that is
pub best_take : (names : List (List ℕ)) (marks : List Bool) (s : ℕ) (best result : Option ℕ) → slice_index_or marks s false ≡ true → IsBest names marks s best → IsBetter names best s result → IsBest names marks (s + 1) result
best_take names marks s best result marked = elim best as (λ o. IsBest names marks s o → IsBetter names o s result → IsBest names marks (s + 1) result) [
  | None ↦ λ none is. subst (λ (o : Option ℕ). IsBest names marks (s + 1) o) (sym is) (record {
    member = (omega arith, marked);
    first = λ t h. elim (below_or s t h.0) [ inl lt ↦ absurd (none t (lt, h.1)) | inr same ↦ inl same ];
  })
  | Some b ↦ λ is better. elim better [
    | inl new ↦ subst (λ (o : Option ℕ). IsBest names marks (s + 1) o) (sym new.0) (record {
      member = (omega arith, marked);
      first = λ t h. elim (below_or s t h.0) [
        | inl lt ↦ elim (is.first t (lt, h.1)) [
          | inl same ↦ inr (subst (λ (z : ℕ). IsNamedBefore names s z) (sym same) new.1)
          | inr before ↦ inr (named_through names s b t new.1 before)
        ]
        | inr same ↦ inl same
      ];
    })
    | inr old ↦ subst (λ (o : Option ℕ). IsBest names marks (s + 1) o) (sym old.0) (record {
      member = (omega (arith, is.member.0), is.member.1);
      first = λ t h. elim (below_or s t h.0) [
        | inl lt ↦ is.first t (lt, h.1)
        | inr same ↦ inr (subst (λ (z : ℕ). IsNamedBefore names b z) (sym same) old.1)
      ];
    })
  ]
]

-- the best is one of those that were looked at
pub better_inside : (names : List (List ℕ)) (best : Option ℕ) (s : ℕ) (result : Option ℕ) → IfSome best (λ b. b < s) → IsBetter names best s result → IfSome result (λ b. b < s + 1)
better_inside names best s result low = elim best as (λ o. IfSome o (λ b. b < s) → IsBetter names o s result → IfSome result (λ b. b < s + 1)) [
  | None ↦ λ low is. subst (λ (o : Option ℕ). IfSome o (λ b. b < s + 1)) (sym is) (omega arith)
  | Some b ↦ λ low better. elim better [
    | inl new ↦ subst (λ (o : Option ℕ). IfSome o (λ b. b < s + 1)) (sym new.0) (omega arith)
    | inr old ↦ subst (λ (o : Option ℕ). IfSome o (λ b. b < s + 1)) (sym old.0) (omega arith)
  ]
] low

pub later_inside : (best : Option ℕ) (s : ℕ) → IfSome best (λ b. b < s) → IfSome best (λ b. b < s + 1)
later_inside None s h = tt
later_inside (Some b) s h = omega arith

pub inside_all : (best : Option ℕ) (s count : ℕ) → s ≤ count → IfSome best (λ b. b < s) → IfSome best (λ b. b < count)
inside_all None s count le h = tt
inside_all (Some b) s count le h = omega arith

-- what is marked is in the list
pub marked_inside : (marks : List Bool) (s : ℕ) → IsMarked marks s → s < length marks
marked_inside [] s h = absurd cc
marked_inside (m ∷ marks) zero h = omega arith
marked_inside (m ∷ marks) (suc s) h = let low = marked_inside marks s h in omega arith

-- all of them were looked at
pub best_whole : (names : List (List ℕ)) (marks : List Bool) (bound : ℕ) (best : Option ℕ) → ((s : ℕ) → IsMarked marks s → s < bound) → IsBest names marks bound best
    → MatchOption best ((s : ℕ) → IsMarked marks s → ⊥) (λ s. IsFirst names (IsMarked marks) s)
best_whole names marks bound best within = elim best as (λ o. IsBest names marks bound o → MatchOption o ((s : ℕ) → IsMarked marks s → ⊥) (λ s. IsFirst names (IsMarked marks) s)) [
  | None ↦ λ none s h. none s (within s h, h)
  | Some b ↦ λ is. record { member = is.member.1; first = λ t h. is.first t (within t h, h) }
]

-- the first of the same sources, said otherwise
pub first_same : (names : List (List ℕ)) (P Q : ℕ → Type 0) (s : ℕ) → ((t : ℕ) → P t → Q t) → ((t : ℕ) → Q t → P t) → IsFirst names P s → IsFirst names Q s
first_same names P Q s to from is = record { member = to s is.member; first = λ t h. is.first t (from t h) }
