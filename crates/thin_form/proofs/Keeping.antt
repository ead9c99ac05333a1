-- A module that is numbered keeps the rules.
use Rattle.std.proofs.Common.{◌≡◌, ℕ, Bool, true, false, ◌&&◌, ◌||◌, List, [], ◌∷◌, ◌++◌, map, Some, None, refl, sym, ap, subst, ◌∙◌, inl, inr}
use Rattle.std.specs.Prelude.{IsTrue}
use Rattle.std.specs.List.{AllByRecursion, IsDistinct}
use Rattle.std.specs.Str.{bytes_eq}
use Rattle.std.proofs.lemmas.Bool.{or_cases, and_parts}
use Rattle.thin_tree.specs.declared.tree.Class.{Class}
use Rattle.thin_tree.specs.declared.tree.Class.TheVariants.{Input, Net, Register}
use Rattle.thin_tree.specs.Tree.{Declared, Assignment, Process, Expr}
use Rattle.thin_form.specs.Design.{IsAscending}
use Rattle.thin_form.specs.Rules.{names_of, targets, cleared, clocks, is_among, is_a, class_eq, ReadsDeclared, ReadsNone, IsProcessOf, IsAssignmentOf, IsAssignedOnce, KeepsRules, HasNoCycle}
use Rattle.thin_form.specs.Order.{of_class, no_wires}
use Rattle.thin_form.specs.Numbers.{Lists, rules_of, IsControlled, AreInputs, AreMarked}
use Rattle.thin_form.specs.Resolved.{lists_of}
use Rattle.thin_form.specs.Walk.{IsOrder, IsCircle}
use Rattle.thin_form.specs.Values.{wires_in}
use Rattle.thin_form.specs.declared.term.Term.{Term}
use Rattle.thin_form.proofs.Naming.{distinct_names, same_eq, eq_same}
use Rattle.thin_form.proofs.Classes.{among_class, class_source, wire_no_source, ascending_filter, both_ways}
use Rattle.thin_form.proofs.Exprs.{IsTerms}
use Rattle.thin_form.proofs.Ruled.{AreTerms, are_terms, rules_there, reads_are, reads_have, each_assigned, each_serves}
use Rattle.thin_form.proofs.Sorting.{one_order}
use Rattle.thin_form.proofs.Sound.{no_cycle, no_circle, both_all, all_map, map_back, all_append}

terms_each : (l : Lists) (P : Expr → Type 0) (es : List Expr) (rs : List (List Term)) → ((e : Expr) (ts : List Term) → IsTerms l e ts → P e) → AreTerms l es rs → AllByRecursion P es
terms_each l P [] rs f are = tt
terms_each l P (e ∷ es) [] f are = absurd are
terms_each l P (e ∷ es) (ts ∷ rs) f are = (f e ts are.0, terms_each l P es rs f are.1)

or_right_true : (b : Bool) → (b || true) ≡ true
or_right_true true = refl
or_right_true false = refl

itself_served : (class : Class) → class_eq class class ≡ true
itself_served Input = refl
itself_served Net = refl
itself_served Register = refl

-- each declaration of a class is one of it
pub own_class : (class : Class) (ds : List Declared) → AllByRecursion (λ d. d.class ≡ class → is_a class ds d.name ≡ true) ds
own_class class ds = go ds (λ d h. h)
  where
    one_more : (d : Declared) (es : List Declared) (n : List ℕ) → is_a class es n ≡ true → is_a class (d ∷ es) n ≡ true
    one_more d es n h = rw h (or_right_true _)

    go : (es : List Declared) → ((n : List ℕ) → is_a class es n ≡ true → is_a class ds n ≡ true) → AllByRecursion (λ d. d.class ≡ class → is_a class ds d.name ≡ true) es
    go [] into = tt
    go (d ∷ es) into = (
      λ is. into d.name (let same = eq_same d.name d.name refl in let here : class_eq class d.class ≡ true = ap (class_eq class) is ∙ itself_served class in rw (same, here) refl),
      go es (λ n h. into n (one_more d es n h)),
    )

module _ (ds : List Declared) (ps : List Process) (assigns : List Assignment) (marks : List Bool) (up : IsAscending (names_of ds)) (ins : AreInputs (of_class Input ds) ps) (marked : AreMarked (no_wires ds) ps marks) where
  abbrev l : Lists
  l = lists_of ds marks

  once : IsDistinct bytes_eq (names_of ds)
  once = distinct_names (names_of ds) up

  pub class_once : (class : Class) → IsDistinct bytes_eq (of_class class ds)
  class_once class = distinct_names (of_class class ds) (ascending_filter (λ d. class_eq class d.class) ds up)

  pub wires_apart : (n : List ℕ) → is_among n (of_class Net ds) ≡ true → is_among n (no_wires ds) ≡ false
  wires_apart n wire = wire_no_source ds n once (sym (among_class Net ds n) ∙ wire)

  assigned_once : (class : Class) (ns : List (List ℕ)) → ns ≡ of_class class ds → IsAssignedOnce class ds ns
  assigned_once class ns same = record { once = subst (IsDistinct bytes_eq) (sym same) (class_once class); each = each_serves class ds ds ns same (own_class class ds) }

  process_is : (p : Process) → IsControlled l p → (is_a Register ds p.cleared ≡ true) × ReadsDeclared ds p.data → IsProcessOf ds p
  process_is p is h = record {
    uses = record {
      clock = sym (among_class Input ds p.clock) ∙ is.clock;
      tested = ap (is_a Input ds) is.tested ∙ sym (among_class Input ds p.event) ∙ is.pin;
      «data» = h.1;
    };
    tests = record { negated = is.negated; tested = is.tested };
    assigns = record { both = is.both; register = h.0 };
  }

  tested_apart : (p : Process) → IsControlled l p → is_among p.tested (clocks ps) ≡ false
  tested_apart p is =
      let source = class_source Input ds p.event refl (sym (among_class Input ds p.event) ∙ is.pin) in
      ap (λ (n : List ℕ). is_among n (clocks ps)) is.tested ∙ sym (marked p.event source) ∙ is.apart

  pub keeps_rules : (rs rd : List (List Term)) (order : List ℕ) → targets assigns ≡ of_class Net ds → cleared ps ≡ of_class Register ds → AllByRecursion (IsControlled l) ps → rules_of l (map (λ a. a.value) assigns) ≡ Some rs → rules_of l (map (λ p. p.data) ps) ≡ Some rd → IsOrder (map wires_in rs) order → KeepsRules ds ps assigns
  keeps_rules rs rd order nets registers controlled wires datas is =
      let wire_terms = are_terms l (map (λ a. a.value) assigns) rs wires in
      let data_terms = are_terms l (map (λ p. p.data) ps) rd datas in
      let values_declared = terms_each l (ReadsDeclared ds) (map (λ a. a.value) assigns) rs (λ e ts h. (reads_are ds ps marks up ins marked e ts h).0) wire_terms in
      let values_apart = terms_each l (ReadsNone (clocks ps)) (map (λ a. a.value) assigns) rs (λ e ts h. (reads_are ds ps marks up ins marked e ts h).1) wire_terms in
      let data_declared = terms_each l (ReadsDeclared ds) (map (λ p. p.data) ps) rd (λ e ts h. (reads_are ds ps marks up ins marked e ts h).0) data_terms in
      let data_apart = terms_each l (ReadsNone (clocks ps)) (map (λ p. p.data) ps) rd (λ e ts h. (reads_are ds ps marks up ins marked e ts h).1) data_terms in
      let served = all_map (λ n. is_a Register ds n ≡ true) (λ (p : Process). p.cleared) ps (each_assigned Register ds (cleared ps) registers) in
      let aimed = all_map (λ n. is_a Net ds n ≡ true) (λ (a : Assignment). a.target) assigns (each_assigned Net ds (targets assigns) nets) in
      let data_ok = all_map (ReadsDeclared ds) (λ (p : Process). p.data) ps data_declared in
      let value_ok = all_map (ReadsDeclared ds) (λ (a : Assignment). a.value) assigns values_declared in
      record {
        each_process = both_all (IsControlled l) (λ p. (is_a Register ds p.cleared ≡ true) × ReadsDeclared ds p.data) (IsProcessOf ds) ps process_is controlled
            (both_all (λ p. is_a Register ds p.cleared ≡ true) (λ p. ReadsDeclared ds p.data) (λ p. (is_a Register ds p.cleared ≡ true) × ReadsDeclared ds p.data) ps (λ p x y. (x, y)) served data_ok);
        each_assignment = both_all (λ a. is_a Net ds a.target ≡ true) (λ a. ReadsDeclared ds a.value) (IsAssignmentOf ds) assigns (λ a x y. record { target = x; value = y }) aimed value_ok;
        registers = assigned_once Register (cleared ps) registers;
        nets = assigned_once Net (targets assigns) nets;
        clocks_kept = record {
          tested = both_all (IsControlled l) (IsControlled l) (λ p. is_among p.tested (clocks ps) ≡ false) ps (λ p x y. tested_apart p x) controlled controlled;
          read = all_append (ReadsNone (clocks ps)) (map (λ a. a.value) assigns) (map (λ p. p.data) ps) values_apart data_apart;
        };
        acyclic = no_cycle l assigns rs nets (class_once Net) wires_apart wire_terms order is;
      }

  pub circle_refused : (rs : List (List Term)) (ws : List ℕ) → targets assigns ≡ of_class Net ds → rules_of l (map (λ a. a.value) assigns) ≡ Some rs → IsCircle (map wires_in rs) ws → HasNoCycle assigns → ⊥
  circle_refused rs ws nets wires is none = no_circle l assigns rs nets (class_once Net) wires_apart (are_terms l (map (λ a. a.value) assigns) rs wires) ws is none

  -- ---- what is refused breaks a rule

  all_left : (P : Expr → Type 0) (xs ys : List Expr) → AllByRecursion P (xs ++ ys) → AllByRecursion P xs
  all_left P [] ys all = tt
  all_left P (x ∷ xs) ys all = (all.0, all_left P xs ys all.1)

  all_right : (P : Expr → Type 0) (xs ys : List Expr) → AllByRecursion P (xs ++ ys) → AllByRecursion P ys
  all_right P [] ys all = all
  all_right P (x ∷ xs) ys all = all_right P xs ys all.1

  pub values_there : KeepsRules ds ps assigns → rules_of l (map (λ a. a.value) assigns) ≡ None → ⊥
  values_there rules none =
      let apart = all_left (ReadsNone (clocks ps)) (map (λ a. a.value) assigns) (map (λ p. p.data) ps) rules.clocks_kept.read in
      let there = map_back (ReadsDeclared ds) (λ (a : Assignment). a.value) assigns (both_all (IsAssignmentOf ds) (IsAssignmentOf ds) (λ a. ReadsDeclared ds a.value) assigns (λ a x y. x.value) rules.each_assignment rules.each_assignment) in
      rules_there l (map (λ a. a.value) assigns) (both_all (ReadsDeclared ds) (ReadsNone (clocks ps)) _ (map (λ a. a.value) assigns) (λ e x y. reads_have ds ps marks up ins marked e x y) there apart) none

  pub data_there : KeepsRules ds ps assigns → rules_of l (map (λ p. p.data) ps) ≡ None → ⊥
  data_there rules none =
      let apart = all_right (ReadsNone (clocks ps)) (map (λ a. a.value) assigns) (map (λ p. p.data) ps) rules.clocks_kept.read in
      let there = map_back (ReadsDeclared ds) (λ (p : Process). p.data) ps (both_all (IsProcessOf ds) (IsProcessOf ds) (λ p. ReadsDeclared ds p.data) ps (λ p x y. x.uses.data) rules.each_process rules.each_process) in
      rules_there l (map (λ p. p.data) ps) (both_all (ReadsDeclared ds) (ReadsNone (clocks ps)) _ (map (λ p. p.data) ps) (λ e x y. reads_have ds ps marks up ins marked e x y) there apart) none

  control_is : (p : Process) → IsProcessOf ds p → is_among p.tested (clocks ps) ≡ false → IsControlled l p
  control_is p is apart =
      let pin : is_a Input ds p.event ≡ true = ap (is_a Input ds) (sym is.tests.tested) ∙ is.uses.tested in
      record {
        clock = among_class Input ds p.clock ∙ is.uses.clock;
        pin = among_class Input ds p.event ∙ pin;
        apart = marked p.event (class_source Input ds p.event refl pin) ∙ ap (λ (n : List ℕ). is_among n (clocks ps)) (sym is.tests.tested) ∙ apart;
        negated = is.tests.negated;
        tested = is.tests.tested;
        both = is.assigns.both;
      }

  pub controlled_all : KeepsRules ds ps assigns → AllByRecursion (IsControlled l) ps
  controlled_all rules = both_all (IsProcessOf ds) (λ p. is_among p.tested (clocks ps) ≡ false) (IsControlled l) ps control_is rules.each_process rules.clocks_kept.tested

-- the clocks of processes that keep the rules are inputs
pub inputs_all : (ds : List Declared) (ps : List Process) → AllByRecursion (IsProcessOf ds) ps → AreInputs (of_class Input ds) ps
inputs_all ds [] each = tt
inputs_all ds (p ∷ ps) each = (among_class Input ds p.clock ∙ each.0.uses.clock, inputs_all ds ps each.1)

among_all : (P : List ℕ → Type 0) (ns : List (List ℕ)) (n : List ℕ) → AllByRecursion P ns → is_among n ns ≡ true → P n
among_all P [] n all h = absurd cc
among_all P (k ∷ ns) n all h = elim (or_cases (bytes_eq n k) (is_among n ns) h) [
  | inl e ↦ subst P (sym (same_eq n k e)) all.0
  | inr later ↦ among_all P ns n all.1 later
]

-- names of a class that are each assigned once are what is assigned, where both are in order
pub same_list : (class : Class) (ds : List Declared) (ns : List (List ℕ)) → IsAscending (names_of ds) → IsAscending ns → AllByRecursion (λ n. is_a class ds n ≡ true) ns → AllByRecursion (λ d. d.class ≡ class → IsTrue (is_among d.name ns)) ds → ns ≡ of_class class ds
same_list class ds ns up sorted each all =
    one_order ns (of_class class ds) sorted (ascending_filter (λ d. class_eq class d.class) ds up) (λ n. both_ways (is_among n ns) (is_among n (of_class class ds))
    (λ h. among_class class ds n ∙ among_all (λ k. is_a class ds k ≡ true) ns n each h)
    (λ h. serves ds n all (sym (among_class class ds n) ∙ h)))
  where
    class_same : (a b : Class) → class_eq a b ≡ true → b ≡ a
    class_same Input Input e = refl
    class_same Input Net e = absurd cc
    class_same Input Register e = absurd cc
    class_same Net Input e = absurd cc
    class_same Net Net e = refl
    class_same Net Register e = absurd cc
    class_same Register Input e = absurd cc
    class_same Register Net e = absurd cc
    class_same Register Register e = refl

    serves : (es : List Declared) (n : List ℕ) → AllByRecursion (λ d. d.class ≡ class → IsTrue (is_among d.name ns)) es → is_a class es n ≡ true → is_among n ns ≡ true
    serves [] n all h = absurd cc
    serves (d ∷ es) n all h = elim (or_cases (bytes_eq n d.name && class_eq class d.class) (is_a class es n) h) [
      | inl here ↦ let both = and_parts (bytes_eq n d.name) (class_eq class d.class) here in ap (λ (k : List ℕ). is_among k ns) (same_eq n d.name both.0) ∙ all.0 (class_same class d.class both.1)
      | inr later ↦ serves es n all.1 later
    ]
