-- What is resolved, where names are listed in order.
use Rattle.std.proofs.Common.{◌≡◌, ℕ, ◌<◌, ◌^◌, Bool, true, not, inl, inr, get_or, List, [], map, length, Some, Result, Ok, Err, IfOk, refl, sym, ap, subst, ◌∙◌, arith}
use Rattle.std.specs.Prelude.{IsTrue}
use Rattle.std.specs.List.{IsDistinct}
use Rattle.std.specs.List.Sorted.{IsSortedByKey}
use Rattle.std.specs.Str.{bytes_eq}
use Rattle.std.specs.Ordering.{nat_cmp}
use Rattle.std.specs.Cmp.Lexicographic.{slice_cmp}
use Rattle.std.proofs.lemmas.List.{length-map, get_or-map, get_or_past}
use Rattle.std.proofs.lemmas.Bool.{cases_lt}
use Rattle.std.proofs.lemmas.Simd.{map-map}
use Rattle.thin_tree.specs.declared.tree.Class.TheVariants.{Input, Net, Register}
use Rattle.thin_tree.specs.Tree as tree
use Rattle.thin_tree.specs.Tree.{Declared, Assignment, Process}
use Rattle.thin_tree.specs.Written.{an_assignment, a_process}
use Rattle.thin_form.specs.declared.assigned.Assigned.{Assigned}
use Rattle.thin_form.specs.declared.assigned.Clocked.{Clocked}
use Rattle.thin_form.specs.Design.{IsAscending}
use Rattle.thin_form.specs.Rules.{names_of, targets, cleared, is_a, is_among, class_eq, IsProcessOf, IsAssignmentOf, KeepsRules}
use Rattle.thin_form.specs.Order.{of_class, no_wires, all_assigns, all_processes}
use Rattle.thin_form.specs.Numbers.{Lists, AreLists, rules_of, AreInputs, AreMarked}
use Rattle.thin_form.specs.Resolved.{lists_of, IsRefused, by_process, by_value, by_register, by_circle}
use Rattle.thin_form.specs.Walk.{IsIn, ReadWithin}
use Rattle.thin_form.specs.Values.{wires_in}
use Rattle.thin_form.specs.declared.term.Term.{Term}
use Rattle.thin_form.proofs.Naming.{place_lt}
use Rattle.thin_form.proofs.Classes.{among_class, class_source, ascending_filter, fewer_names}
use Rattle.thin_form.proofs.Orders.{sorted_ascends}
use Rattle.thin_form.proofs.Computed.{named}
use Rattle.thin_form.proofs.Ruled.{are_terms, terms_count, terms_at_place}
use Rattle.thin_form.proofs.Sound.{both_all, map_back}
use Rattle.thin_form.proofs.Keeping.{same_list, values_there, data_there, controlled_all, circle_refused}

-- wires that are read are there
pub reads_within : (l : Lists) (assigns : List Assignment) (rs : List (List Term)) → targets assigns ≡ l.wires → rules_of l (map (λ a. a.value) assigns) ≡ Some rs → (length rs ≡ length l.wires) × ReadWithin (map wires_in rs)
reads_within l assigns rs named_so is =
    let are = are_terms l (map (λ a. a.value) assigns) rs is in
    let count : length rs ≡ length l.wires = terms_count l (map (λ a. a.value) assigns) rs are ∙ length-map assigns (λ a. a.value) ∙ sym (length-map assigns (λ a. a.target)) ∙ ap length named_so in (
      count,
      λ w v h.
          elim (cases_lt w (length rs)) [
            | inl lt ↦
                let at = terms_at_place l (map (λ a. a.value) assigns) rs w (tree.Name []) are (omega (arith, count, ap length named_so, length-map assigns (λ (a : Assignment). a.target), length-map assigns (λ (a : Assignment). a.value))) in
                let by = named l _ (get_or rs w []) v at (subst (IsIn v) (get_or-map wires_in rs w [] [] lt) h) in
                omega (arith, place_lt l.wires by.name by.wire, by.at, count, length-map rs wires_in)
            | inr le ↦ absurd (subst (IsIn v) (get_or_past (map wires_in rs) w [] (omega (arith, length-map rs wires_in))) h)
          ],
    )

pub lists_are : (ds : List Declared) (inputs sources wires : List (List ℕ)) (marks : List Bool) → inputs ≡ of_class Input ds → sources ≡ no_wires ds → wires ≡ of_class Net ds → record { inputs = inputs; sources = sources; wires = wires; clocks = marks } ≡ lists_of ds marks
lists_are ds inputs sources wires marks a b c =
    ap (λ (x : List (List ℕ)). record { inputs = x; sources = sources; wires = wires; clocks = marks }) a
    ∙ ap (λ (x : List (List ℕ)). record { inputs = of_class Input ds; sources = x; wires = wires; clocks = marks }) b
    ∙ ap (λ (x : List (List ℕ)). record { inputs = of_class Input ds; sources = no_wires ds; wires = x; clocks = marks }) c

pub are_lists : (ds : List Declared) (marks : List Bool) → length ds < 2 ^ 32 → IsAscending (names_of ds) → length marks ≡ length (no_wires ds) → AreLists (lists_of ds marks)
are_lists ds marks few up count = record {
  inputs = ascending_filter (λ d. class_eq Input d.class) ds up;
  sources = ascending_filter (λ d. not (class_eq Net d.class)) ds up;
  wires = ascending_filter (λ d. class_eq Net d.class) ds up;
  few_inputs = omega (arith, fewer_names (λ d. class_eq Input d.class) ds);
  few_sources = omega (arith, fewer_names (λ d. not (class_eq Net d.class)) ds);
  few_wires = omega (arith, fewer_names (λ d. class_eq Net d.class) ds);
  each = λ t h. class_source Input ds t refl (sym (among_class Input ds t) ∙ h);
  clocks = count;
}

-- inputs are sources
pub inputs_within : (ds : List Declared) (t : List ℕ) → IsTrue (is_among t (of_class Input ds)) → IsTrue (is_among t (no_wires ds))
inputs_within ds t h = class_source Input ds t refl (sym (among_class Input ds t) ∙ h)

-- where the rules are kept, what is assigned in order is what is declared
pub wires_same : (ds : List Declared) (ps : List Process) (assigns : List Assigned) → IsAscending (names_of ds) → IsSortedByKey (λ a. a.of.now.target.now) (slice_cmp nat_cmp) assigns → KeepsRules ds ps (all_assigns assigns) → targets (all_assigns assigns) ≡ of_class Net ds
wires_same ds ps assigns up sorted rules =
    let fused : targets (all_assigns assigns) ≡ map (λ (a : Assigned). a.of.now.target.now) assigns = map-map (λ (a : Assignment). a.target) (λ (a : Assigned). an_assignment a.of.now) assigns in
    let rises = sorted_ascends (λ (a : Assigned). a.of.now.target.now) assigns sorted (subst (IsDistinct bytes_eq) fused rules.nets.once) in
    let each = map_back (λ n. is_a Net ds n ≡ true) (λ (a : Assignment). a.target) (all_assigns assigns) (both_all (IsAssignmentOf ds) (IsAssignmentOf ds) (λ a. is_a Net ds a.target ≡ true) (all_assigns assigns) (λ a x y. x.target) rules.each_assignment rules.each_assignment) in
    same_list Net ds (targets (all_assigns assigns)) up (subst IsAscending (sym fused) rises) each rules.nets.each

pub registers_same : (ds : List Declared) (ps : List Clocked) (assigns : List Assignment) → IsAscending (names_of ds) → IsSortedByKey (λ p. p.of.now.cleared.now) (slice_cmp nat_cmp) ps → KeepsRules ds (all_processes ps) assigns → cleared (all_processes ps) ≡ of_class Register ds
registers_same ds ps assigns up sorted rules =
    let fused : cleared (all_processes ps) ≡ map (λ (p : Clocked). p.of.now.cleared.now) ps = map-map (λ (p : Process). p.cleared) (λ (p : Clocked). a_process p.of.now) ps in
    let rises = sorted_ascends (λ (p : Clocked). p.of.now.cleared.now) ps sorted (subst (IsDistinct bytes_eq) fused rules.registers.once) in
    let each = map_back (λ n. is_a Register ds n ≡ true) (λ (p : Process). p.cleared) (all_processes ps) (both_all (IsProcessOf ds) (IsProcessOf ds) (λ p. is_a Register ds p.cleared ≡ true) (all_processes ps) (λ p x y. x.assigns.register) rules.each_process rules.each_process) in
    same_list Register ds (cleared (all_processes ps)) up (subst IsAscending (sym fused) rises) each rules.registers.each

-- what is refused breaks a rule
pub never_refused : (ds : List Declared) (ps : List Process) (assigns : List Assignment) (marks : List Bool) → IsAscending (names_of ds) → AreInputs (of_class Input ds) ps → AreMarked (no_wires ds) ps marks → targets assigns ≡ of_class Net ds → KeepsRules ds ps assigns → IsRefused (lists_of ds marks) ps assigns → ⊥
never_refused ds ps assigns marks up ins marked nets rules (by_process none) = none (controlled_all ds ps assigns marks up ins marked rules)
never_refused ds ps assigns marks up ins marked nets rules (by_value none) = values_there ds ps assigns marks up ins marked rules none
never_refused ds ps assigns marks up ins marked nets rules (by_register none) = data_there ds ps assigns marks up ins marked rules none
never_refused ds ps assigns marks up ins marked nets rules (by_circle rs ws is circle) = circle_refused ds ps assigns marks up ins marked rs ws nets is circle rules.acyclic

-- what two facts of an answer give
pub ok_both : {T E : Type 0} (P Q R : T → Type 0) (r : Result T E) → ((x : T) → P x → Q x → R x) → IfOk r P → IfOk r Q → IfOk r R
ok_both P Q R (Ok x) f p q = f x p q
ok_both P Q R (Err e) f p q = tt
