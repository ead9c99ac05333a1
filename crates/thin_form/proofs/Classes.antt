-- The names that are declared as one of a class.
use Rattle.std.proofs.Common.{◌≡◌, ◌⊎◌, inl, inr, ℕ, ◌+◌, ◌≤◌, Bool, true, false, not, ◌&&◌, ◌||◌, List, [], ◌∷◌, length, filter, refl, sym, ap, subst, ◌∙◌, arith}
use Rattle.std.specs.List.{list_any, AllByRecursion, IsDistinct}
use Rattle.std.specs.List.Sorted.{IsStrictlySortedBy}
use Rattle.std.specs.Str.{bytes_eq}
use Rattle.std.specs.Ordering.{nat_cmp}
use Rattle.std.specs.declared.cmp.Ordering.TheVariants.{Less}
use Rattle.std.specs.Cmp.Lexicographic.{slice_cmp}
use Rattle.std.proofs.lemmas.Bool.{cases_Bool, and_parts, or_cases, false_from_ne_true}
use Rattle.std.proofs.lemmas.Map.Keys.{IsDistinct-head, IsDistinct-tail}
use Rattle.thin_tree.specs.declared.tree.Class.{Class}
use Rattle.thin_tree.specs.declared.tree.Class.TheVariants.{Input, Net, Register}
use Rattle.thin_tree.specs.Tree.{Declared}
use Rattle.thin_form.specs.Design.{IsAscending}
use Rattle.thin_form.specs.Rules.{names_of, class_eq, is_among, is_a, is_declared}
use Rattle.thin_form.specs.Order.{of_class, no_wires}
use Rattle.thin_form.proofs.Naming.{same_eq}

and_true : (b : Bool) → b && true ≡ b
and_true true = refl
and_true false = refl

and_false : (b : Bool) → b && false ≡ false
and_false true = refl
and_false false = refl

-- two tests that pass together are one
pub both_ways : (a b : Bool) → (a ≡ true → b ≡ true) → (b ≡ true → a ≡ true) → a ≡ b
both_ways true b to from = sym (to refl)
both_ways false true to from = from refl
both_ways false false to from = refl

among_filtered : (p : Declared → Bool) (ds : List Declared) (n : List ℕ) → is_among n (names_of (filter p ds)) ≡ list_any (λ d. bytes_eq n d.name && p d) ds
among_filtered p [] n = refl
among_filtered p (d ∷ ds) n =
    elim (cases_Bool (p d)) [
      | inl yes_it ↦ rw (yes_it, and_true (bytes_eq n d.name)) (ap (λ (b : Bool). bytes_eq n d.name || b) (among_filtered p ds n))
      | inr no_it ↦ rw (no_it, and_false (bytes_eq n d.name)) (among_filtered p ds n)
    ]

pub among_class : (class : Class) (ds : List Declared) (n : List ℕ) → is_among n (of_class class ds) ≡ is_a class ds n
among_class class ds n = among_filtered (λ d. class_eq class d.class) ds n

any_weaker : (p q : Declared → Bool) (ds : List Declared) → ((d : Declared) → p d ≡ true → q d ≡ true) → list_any p ds ≡ true → list_any q ds ≡ true
any_weaker p q [] weaker e = absurd cc
any_weaker p q (d ∷ ds) weaker e = elim (or_cases (p d) (list_any p ds) e) [
  | inl here ↦ rw (weaker d here) refl
  | inr later ↦ rw (any_weaker p q ds weaker later) (or_true (q d))
]
  where
    or_true : (b : Bool) → (b || true) ≡ true
    or_true true = refl
    or_true false = refl

pub class_declared : (class : Class) (ds : List Declared) (n : List ℕ) → is_a class ds n ≡ true → is_declared ds n ≡ true
class_declared class ds n e = any_weaker (λ d. bytes_eq n d.name && class_eq class d.class) (λ d. bytes_eq n d.name) ds (λ d h. (and_parts (bytes_eq n d.name) (class_eq class d.class) h).0) e

pub source_declared : (ds : List Declared) (n : List ℕ) → is_among n (no_wires ds) ≡ true → is_declared ds n ≡ true
source_declared ds n e = any_weaker (λ d. bytes_eq n d.name && not (class_eq Net d.class)) (λ d. bytes_eq n d.name) ds (λ d h. (and_parts (bytes_eq n d.name) (not (class_eq Net d.class)) h).0) (sym (among_filtered (λ d. not (class_eq Net d.class)) ds n) ∙ e)

no_net : (class : Class) (d : Declared) → class_eq Net class ≡ false → class_eq class d.class ≡ true → not (class_eq Net d.class) ≡ true
no_net Input d other same = go d.class same
  where
    go : (c : Class) → class_eq Input c ≡ true → not (class_eq Net c) ≡ true
    go Input e = refl
    go Net e = absurd cc
    go Register e = refl
no_net Net d other same = absurd cc
no_net Register d other same = go d.class same
  where
    go : (c : Class) → class_eq Register c ≡ true → not (class_eq Net c) ≡ true
    go Input e = refl
    go Net e = absurd cc
    go Register e = refl

-- an input or a register is a source
pub class_source : (class : Class) (ds : List Declared) (n : List ℕ) → class_eq Net class ≡ false → is_a class ds n ≡ true → is_among n (no_wires ds) ≡ true
class_source class ds n other e =
    among_filtered (λ d. not (class_eq Net d.class)) ds n
    ∙ any_weaker (λ d. bytes_eq n d.name && class_eq class d.class) (λ d. bytes_eq n d.name && not (class_eq Net d.class)) ds (λ d h. let both = and_parts (bytes_eq n d.name) (class_eq class d.class) h in rw (both.0, no_net class d other both.1) refl) e

-- what is declared is a wire or a source
pub declared_cases : (ds : List Declared) (n : List ℕ) → is_declared ds n ≡ true → (is_a Net ds n ≡ true) ⊎ (is_among n (no_wires ds) ≡ true)
declared_cases [] n e = absurd cc
declared_cases (d ∷ ds) n e = elim (or_cases (bytes_eq n d.name) (is_declared ds n) e) [
  | inl here ↦ elim (cases_Bool (class_eq Net d.class)) [
    | inl net ↦ inl (rw (here, net) refl)
    | inr other ↦ inr (rw (other, here) refl)
  ]
  | inr later ↦ elim (declared_cases ds n later) [
    | inl net ↦ inl (rw net (or_true (bytes_eq n d.name && class_eq Net d.class)))
    | inr source ↦ inr (among_filtered (λ d. not (class_eq Net d.class)) (d ∷ ds) n ∙ ap (λ (b : Bool). (bytes_eq n d.name && not (class_eq Net d.class)) || b) (sym (among_filtered (λ d. not (class_eq Net d.class)) ds n) ∙ source) ∙ or_true (bytes_eq n d.name && not (class_eq Net d.class)))
  ]
]
  where
    or_true : (b : Bool) → (b || true) ≡ true
    or_true true = refl
    or_true false = refl

none_there : (p : Declared → Bool) (ds : List Declared) (n : List ℕ) → AllByRecursion (λ y. bytes_eq n y ≡ false) (names_of ds) → list_any (λ d. bytes_eq n d.name && p d) ds ≡ false
none_there p [] n none = refl
none_there p (d ∷ ds) n none = rw none.0 (none_there p ds n none.1)

-- no declaration of a name that is declared once passes two tests that exclude each other
apart_tests : (p q : Declared → Bool) (ds : List Declared) (n : List ℕ) → ((d : Declared) → p d ≡ true → q d ≡ true → ⊥) → IsDistinct bytes_eq (names_of ds) → list_any (λ d. bytes_eq n d.name && p d) ds ≡ true → list_any (λ d. bytes_eq n d.name && q d) ds ≡ true → ⊥
apart_tests p q [] n apart once x y = cc
apart_tests p q (d ∷ ds) n apart once x y =
    elim (cases_Bool (bytes_eq n d.name)) [
      | inl same ↦
          let others = subst (λ (k : List ℕ). AllByRecursion (λ y. bytes_eq k y ≡ false) (names_of ds)) (sym (same_eq n d.name same)) (IsDistinct-head bytes_eq d.name (names_of ds) once) in
          let here : p d || false ≡ true = sym (rw (same, none_there p ds n others) refl) ∙ x in
          let there : q d || false ≡ true = sym (rw (same, none_there q ds n others) refl) ∙ y in
          apart d (or_no (p d) here) (or_no (q d) there)
      | inr other ↦
          apart_tests p q ds n apart (IsDistinct-tail bytes_eq d.name (names_of ds) once) (sym (ap (λ (t : Bool). (t && p d) || list_any (λ d. bytes_eq n d.name && p d) ds) other) ∙ x) (sym (ap (λ (t : Bool). (t && q d) || list_any (λ d. bytes_eq n d.name && q d) ds) other) ∙ y)
    ]
  where
    or_no : (b : Bool) → (b || false) ≡ true → b ≡ true
    or_no true e = refl
    or_no false e = e

-- a wire is no source
pub wire_no_source : (ds : List Declared) (n : List ℕ) → IsDistinct bytes_eq (names_of ds) → is_a Net ds n ≡ true → is_among n (no_wires ds) ≡ false
wire_no_source ds n once net = false_from_ne_true (is_among n (no_wires ds)) (λ source.
    apart_tests (λ d. class_eq Net d.class) (λ d. not (class_eq Net d.class)) ds n (λ d x y. let bad : not true ≡ true = ap not (sym x) ∙ y in cc) once net (sym (among_filtered (λ d. not (class_eq Net d.class)) ds n) ∙ source))

-- an input is no register
pub input_no_register : (ds : List Declared) (n : List ℕ) → IsDistinct bytes_eq (names_of ds) → is_a Input ds n ≡ true → is_a Register ds n ≡ true → ⊥
input_no_register ds n once i r = apart_tests (λ d. class_eq Input d.class) (λ d. class_eq Register d.class) ds n (λ d x y. go d.class x y) once i r
  where
    go : (c : Class) → class_eq Input c ≡ true → class_eq Register c ≡ true → ⊥
    go Input x y = cc
    go Net x y = cc
    go Register x y = cc

-- ---- order

below_filtered : (p : Declared → Bool) (a : List ℕ) (ds : List Declared) → AllByRecursion (λ y. slice_cmp nat_cmp a y ≡ Less) (names_of ds) → AllByRecursion (λ y. slice_cmp nat_cmp a y ≡ Less) (names_of (filter p ds))
below_filtered p a [] low = tt
below_filtered p a (d ∷ ds) low = elim (cases_Bool (p d)) [
  | inl yes_it ↦ rw yes_it (low.0, below_filtered p a ds low.1)
  | inr no_it ↦ rw no_it (below_filtered p a ds low.1)
]

pub ascending_filter : (p : Declared → Bool) (ds : List Declared) → IsAscending (names_of ds) → IsAscending (names_of (filter p ds))
unfolding IsStrictlySortedBy
ascending_filter p [] up = tt
ascending_filter p (d ∷ ds) up = elim (cases_Bool (p d)) [
  | inl yes_it ↦ rw yes_it (below_filtered p d.name ds up.0, ascending_filter p ds up.1)
  | inr no_it ↦ rw no_it (ascending_filter p ds up.1)
]

pub fewer_names : (p : Declared → Bool) (ds : List Declared) → length (names_of (filter p ds)) ≤ length ds
fewer_names p [] = omega arith
fewer_names p (d ∷ ds) = elim (cases_Bool (p d)) [
  | inl yes_it ↦ rw yes_it (omega (arith, fewer_names p ds))
  | inr no_it ↦ rw no_it (omega (arith, fewer_names p ds))
]

-- wires and sources together are all
pub all_names : (ds : List Declared) → length (of_class Net ds) + length (no_wires ds) ≡ length ds
all_names [] = refl
all_names (d ∷ ds) = elim (cases_Bool (class_eq Net d.class)) [
  | inl net ↦ rw (net) (omega (arith, all_names ds))
  | inr other ↦ rw (other) (omega (arith, all_names ds))
]
