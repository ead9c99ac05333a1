-- The rules by name and by number.
use Rattle.std.proofs.Common.{◌≡◌, inl, inr, ℕ, zero, suc, ◌<◌, Bool, true, false, ◌||◌, List, [], ◌∷◌, length, get_or, Option, Some, None, refl, sym, ap, subst, ◌∙◌, arith}
use Rattle.std.specs.Prelude.{IsTrue}
use Rattle.std.specs.List.{AllByRecursion}
use Rattle.std.specs.Str.{bytes_eq}
use Rattle.std.proofs.lemmas.Bool.{cases_Bool, false_from_ne_true, or_cases}
use Rattle.thin_tree.specs.declared.tree.Class.{Class}
use Rattle.thin_tree.specs.declared.tree.Class.TheVariants.{Input, Net}
use Rattle.thin_tree.specs.Tree.{Declared, Process, Expr}
use Rattle.thin_tree.specs.Grammar.{names_in}
use Rattle.thin_form.specs.Design.{IsAscending}
use Rattle.thin_form.specs.Meaning.{place}
use Rattle.thin_form.specs.Rules.{names_of, clocks, is_among, is_a, is_declared, ReadsDeclared, ReadsNone}
use Rattle.thin_form.specs.Order.{of_class, no_wires}
use Rattle.thin_form.specs.Numbers.{Lists, is_clock, term_of, rules_of, fronted, AreInputs, AreMarked}
use Rattle.thin_form.specs.Resolved.{lists_of}
use Rattle.thin_form.specs.declared.term.Term.{Term}
use Rattle.thin_form.specs.declared.term.Term.TheVariants.{Source, Wire}
use Rattle.thin_form.proofs.Naming.{same_eq, eq_same}
use Rattle.thin_form.proofs.Classes.{among_class, class_declared, source_declared, class_source, declared_cases}
use Rattle.thin_form.proofs.Exprs.{IsTerms, as_terms, terms_in, terms_there, names_have}

-- ---- several expressions

-- each expression is the terms that stand at its place
abbrev pub AreTerms : Lists → List Expr → List (List Term) → Type 0
AreTerms l [] [] = Unit {0}
AreTerms l [] (ts ∷ rs) = ⊥
AreTerms l (e ∷ es) [] = ⊥
AreTerms l (e ∷ es) (ts ∷ rs) = IsTerms l e ts × AreTerms l es rs

pub are_terms : (l : Lists) (es : List Expr) (rs : List (List Term)) → rules_of l es ≡ Some rs → AreTerms l es rs
unfolding rules_of
are_terms l [] [] is = tt
are_terms l [] (ts ∷ rs) is = absurd cc
are_terms l (e ∷ es) rs is = go (terms_in l e) refl (rules_of l es) refl rs is (λ us. as_terms l e us) (λ us. are_terms l es us)
  where
    go : (o : Option (List Term)) → terms_in l e ≡ o → (p : Option (List (List Term))) → rules_of l es ≡ p → (rs : List (List Term)) → fronted o p ≡ Some rs → ((us : List Term) → terms_in l e ≡ Some us → IsTerms l e us) → ((us : List (List Term)) → rules_of l es ≡ Some us → AreTerms l es us) → AreTerms l (e ∷ es) rs
    go None a p b rs is first rest = absurd cc
    go (Some ts) a None b rs is first rest = absurd cc
    go (Some ts) a (Some us) b [] is first rest = absurd cc
    go (Some ts) a (Some us) b (r ∷ rs) is first rest = let one : ts ≡ r = cc in let others : us ≡ rs = cc in (subst (IsTerms l e) one (first ts a), subst (AreTerms l es) others (rest us b))

pub rules_there : (l : Lists) (es : List Expr) → AllByRecursion (λ e. AllByRecursion (λ n. term_of l n ≡ None → ⊥) (names_in e)) es → rules_of l es ≡ None → ⊥
unfolding rules_of
rules_there l [] all none = cc
rules_there l (e ∷ es) all none = go (terms_in l e) (rules_of l es) none (terms_there l e all.0) (rules_there l es all.1)
  where
    go : (o : Option (List Term)) (p : Option (List (List Term))) → fronted o p ≡ None → (o ≡ None → ⊥) → (p ≡ None → ⊥) → ⊥
    go None p e a b = a refl
    go (Some ts) None e a b = b refl
    go (Some ts) (Some us) e a b = cc

pub terms_count : (l : Lists) (es : List Expr) (rs : List (List Term)) → AreTerms l es rs → length rs ≡ length es
terms_count l [] [] are = refl
terms_count l [] (ts ∷ rs) are = absurd are
terms_count l (e ∷ es) [] are = absurd are
terms_count l (e ∷ es) (ts ∷ rs) are = omega (arith, terms_count l es rs are.1)

pub terms_at_place : (l : Lists) (es : List Expr) (rs : List (List Term)) (i : ℕ) (d : Expr) → AreTerms l es rs → i < length es → IsTerms l (get_or es i d) (get_or rs i [])
terms_at_place l [] rs i d are lt = absurd (omega arith)
terms_at_place l (e ∷ es) [] i d are lt = absurd are
terms_at_place l (e ∷ es) (ts ∷ rs) zero d are lt = are.0
terms_at_place l (e ∷ es) (ts ∷ rs) (suc i) d are lt = terms_at_place l es rs i d are.1 (omega arith)

-- ---- what a name means, by number

map_all : (P Q : List ℕ → Type 0) (ns : List (List ℕ)) → ((n : List ℕ) → P n → Q n) → AllByRecursion P ns → AllByRecursion Q ns
map_all P Q [] f all = tt
map_all P Q (n ∷ ns) f all = (f n all.0, map_all P Q ns f all.1)

two_all : (P Q R : List ℕ → Type 0) (ns : List (List ℕ)) → ((n : List ℕ) → P n → Q n → R n) → AllByRecursion P ns → AllByRecursion Q ns → AllByRecursion R ns
two_all P Q R [] f all also = tt
two_all P Q R (n ∷ ns) f all also = (f n all.0 also.0, two_all P Q R ns f all.1 also.1)

among_clocks_input : (inputs : List (List ℕ)) (ps : List Process) (n : List ℕ) → AreInputs inputs ps → is_among n (clocks ps) ≡ true → is_among n inputs ≡ true
among_clocks_input inputs [] n are e = absurd cc
among_clocks_input inputs (p ∷ ps) n are e = elim (or_cases (bytes_eq n p.clock) (is_among n (clocks ps)) e) [
  | inl here ↦ ap (λ (x : List ℕ). is_among x inputs) (same_eq n p.clock here) ∙ are.0
  | inr later ↦ among_clocks_input inputs ps n are.1 later
]

module _ (ds : List Declared) (ps : List Process) (marks : List Bool) (up : IsAscending (names_of ds)) (ins : AreInputs (of_class Input ds) ps) (marked : AreMarked (no_wires ds) ps marks) where
  clock_is_source : (n : List ℕ) → is_among n (clocks ps) ≡ true → is_among n (no_wires ds) ≡ true
  clock_is_source n e = class_source Input ds n refl (sym (among_class Input ds n) ∙ among_clocks_input (of_class Input ds) ps n ins e)

  -- a name that is declared and no clock has a term
  pub has_term : (n : List ℕ) → is_declared ds n ≡ true → is_among n (clocks ps) ≡ false → term_of (lists_of ds marks) n ≡ None → ⊥
  has_term n there no_clock none = elim (cases_Bool (is_among n (no_wires ds))) [
    | inl source ↦
        let unmarked : is_clock (lists_of ds marks) n ≡ false = marked n source ∙ no_clock in
        let some : term_of (lists_of ds marks) n ≡ Some (Source (place (no_wires ds) n)) = rw (source, unmarked) refl in
        cc
    | inr other ↦ elim (declared_cases ds n there) [
      | inl net ↦
          let wire : is_among n (of_class Net ds) ≡ true = among_class Net ds n ∙ net in
          let some : term_of (lists_of ds marks) n ≡ Some (Wire (place (of_class Net ds) n)) = rw (other, wire) refl in
          cc
      | inr source ↦ cc
    ]
  ]

  -- a name that has a term is declared and no clock
  pub term_means : (n : List ℕ) → (term_of (lists_of ds marks) n ≡ None → ⊥) → (is_declared ds n ≡ true) × (is_among n (clocks ps) ≡ false)
  term_means n some = elim (cases_Bool (is_among n (no_wires ds))) [
    | inl source ↦ (source_declared ds n source, sym (marked n source) ∙ false_from_ne_true (is_clock (lists_of ds marks) n) (λ clock. some (rw (source, clock) refl)))
    | inr other ↦ elim (cases_Bool (is_among n (of_class Net ds))) [
      | inl wire ↦ (class_declared Net ds n (sym (among_class Net ds n) ∙ wire), false_from_ne_true (is_among n (clocks ps)) (λ clock. let source = clock_is_source n clock in cc))
      | inr also ↦ absurd (some (rw (other, also) refl))
    ]
  ]

  pub reads_are : (e : Expr) (ts : List Term) → IsTerms (lists_of ds marks) e ts → ReadsDeclared ds e × ReadsNone (clocks ps) e
  reads_are e ts is =
      let have = names_have (lists_of ds marks) e ts is in (
        map_all (λ n. term_of (lists_of ds marks) n ≡ None → ⊥) (λ n. IsTrue (is_declared ds n)) (names_in e) (λ n h. (term_means n h).0) have,
        map_all (λ n. term_of (lists_of ds marks) n ≡ None → ⊥) (λ n. is_among n (clocks ps) ≡ false) (names_in e) (λ n h. (term_means n h).1) have,
      )

  pub reads_have : (e : Expr) → ReadsDeclared ds e → ReadsNone (clocks ps) e → AllByRecursion (λ n. term_of (lists_of ds marks) n ≡ None → ⊥) (names_in e)
  reads_have e there apart = two_all (λ n. IsTrue (is_declared ds n)) (λ n. is_among n (clocks ps) ≡ false) (λ n. term_of (lists_of ds marks) n ≡ None → ⊥) (names_in e) (λ n x y. has_term n x y) there apart

-- ---- names that are lists of others

pub all_in_them : (ns : List (List ℕ)) → AllByRecursion (λ n. is_among n ns ≡ true) ns
all_in_them [] = tt
all_in_them (n ∷ ns) = (rw (eq_same n n refl) refl, map_all (λ k. is_among k ns ≡ true) (λ k. is_among k (n ∷ ns) ≡ true) ns (λ k h. rw h (or_true (bytes_eq k n))) (all_in_them ns))
  where
    or_true : (b : Bool) → (b || true) ≡ true
    or_true true = refl
    or_true false = refl

-- names in the same list as those of a class are each of it
pub each_assigned : (class : Class) (ds : List Declared) (ns : List (List ℕ)) → ns ≡ of_class class ds → AllByRecursion (λ n. is_a class ds n ≡ true) ns
each_assigned class ds ns same = map_all (λ n. is_among n ns ≡ true) (λ n. is_a class ds n ≡ true) ns (λ n h. sym (among_class class ds n) ∙ ap (is_among n) (sym same) ∙ h) (all_in_them ns)

pub each_serves : (class : Class) (ds es : List Declared) (ns : List (List ℕ)) → ns ≡ of_class class ds → AllByRecursion (λ d. d.class ≡ class → is_a class ds d.name ≡ true) es → AllByRecursion (λ d. d.class ≡ class → IsTrue (is_among d.name ns)) es
each_serves class ds [] ns same all = tt
each_serves class ds (e ∷ es) ns same all = (λ is. ap (is_among e.name) same ∙ among_class class ds e.name ∙ all.0 is, each_serves class ds es ns same all.1)
