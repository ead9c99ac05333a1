-- The rules are the same for what is declared and assigned in the text's order and in name order.
use Rattle.std.proofs.Common.{◌≡◌, ℕ, ◌+◌, true, false, ◌&&◌, List, [], ◌∷◌, map, length, sum_by, refl, sym, ◌∙◌, arith}
use Rattle.std.specs.Prelude.{IsTrue}
use Rattle.std.specs.List.{AllByRecursion}
use Rattle.std.specs.List.Sorted.{IsPermutation}
use Rattle.std.specs.Str.{bytes_eq}
use Rattle.std.proofs.lemmas.List.Elements.{All-from_recursion, recursion_from_All}
use Rattle.std.proofs.lemmas.List.Sums.{sum_by-cons}
use Rattle.std.proofs.lemmas.List.Sorted.{All-permutation, IsPermutation-sym, IsPermutation-trans, IsPermutation-map, IsPermutation-append, length_permutation, sum_by-IsPermutation}
use Rattle.thin_tree.specs.declared.tree.Class.{Class}
use Rattle.thin_tree.specs.declared.tree.Class.TheVariants.{Input, Net, Register}
use Rattle.thin_tree.specs.Tree.{Declared, Assignment, Process, Module, Expr}
use Rattle.thin_tree.specs.Postfix.{postfix}
use Rattle.thin_tree.specs.Grammar.{names_in, size, IsPlain, IsTree}
use Rattle.thin_form.specs.Rules.{names_of, clocks, expressions, declared, processes, assignments, is_among, is_a, is_declared, class_eq, ReadsDeclared, ReadsNone, IsProcessOf, IsAssignmentOf, IsAssignedOnce, KeepsRules, IsOfForm}
use Rattle.thin_form.specs.Order.{IsOrderOf}
use Rattle.thin_form.proofs.Naming.{distinct_names}
use Rattle.thin_form.proofs.Orders.{distinct_moved}
use Rattle.thin_form.proofs.Sorting.{any_kept}
use Rattle.thin_form.proofs.Sound.{map_back}
use Rattle.thin_form.proofs.Netting.{map_every}

-- what holds of each, in another order
every_moved : {X : Type 0} (P : X → Type 0) (xs ys : List X) → IsPermutation xs ys → AllByRecursion P xs → AllByRecursion P ys
every_moved P xs ys moved all = recursion_from_All P ys (All-permutation P xs ys moved (All-from_recursion P xs all))

among_moved : {X : Type 0} (f : X → List ℕ) (xs ys : List X) (n : List ℕ) → IsPermutation xs ys → is_among n (map f xs) ≡ is_among n (map f ys)
among_moved f xs ys n moved = any_kept (bytes_eq n) (map f ys) (map f xs) (IsPermutation-map f ys xs (IsPermutation-sym xs ys moved))

module _ (es ds : List Declared) (moved : IsPermutation es ds) where
  class_moved : (class : Class) (n : List ℕ) → is_a class es n ≡ true → is_a class ds n ≡ true
  class_moved class n h = any_kept (λ d. bytes_eq n d.name && class_eq class d.class) es ds moved ∙ h

  declared_moved : (e : Expr) → ReadsDeclared es e → ReadsDeclared ds e
  declared_moved e all = map_every (λ n. IsTrue (is_declared es n)) (λ n. IsTrue (is_declared ds n)) (names_in e) (λ n h. any_kept (λ d. bytes_eq n d.name) es ds moved ∙ h) all

  process_moved : (p : Process) → IsProcessOf es p → IsProcessOf ds p
  process_moved p is = record {
    uses = record { clock = class_moved Input p.clock is.uses.clock; tested = class_moved Input p.tested is.uses.tested; «data» = declared_moved p.data is.uses.data };
    tests = is.tests;
    assigns = record { both = is.assigns.both; register = class_moved Register p.cleared is.assigns.register };
  }

  assignment_moved : (a : Assignment) → IsAssignmentOf es a → IsAssignmentOf ds a
  assignment_moved a is = record { target = class_moved Net a.target is.target; value = declared_moved a.value is.value }

  once_moved : {X : Type 0} (class : Class) (f : X → List ℕ) (xs ys : List X) → IsPermutation xs ys → IsAssignedOnce class es (map f xs) → IsAssignedOnce class ds (map f ys)
  once_moved class f xs ys turned is = record {
    once = distinct_moved f xs ys turned is.once;
    each = every_moved (λ d. d.class ≡ class → IsTrue (is_among d.name (map f ys))) es ds moved (map_every (λ d. d.class ≡ class → IsTrue (is_among d.name (map f xs))) (λ d. d.class ≡ class → IsTrue (is_among d.name (map f ys))) es (λ d h e. sym (among_moved f xs ys d.name turned) ∙ h e) is.each);
  }

  pub rules_moved : (ps qs : List Process) (xs ys : List Assignment) → IsPermutation ps qs → IsPermutation xs ys → KeepsRules es ps xs → KeepsRules ds qs ys
  rules_moved ps qs xs ys turned_ps turned rules = record {
    each_process = every_moved (IsProcessOf ds) ps qs turned_ps (map_every (IsProcessOf es) (IsProcessOf ds) ps process_moved rules.each_process);
    each_assignment = every_moved (IsAssignmentOf ds) xs ys turned (map_every (IsAssignmentOf es) (IsAssignmentOf ds) xs assignment_moved rules.each_assignment);
    registers = once_moved Register (λ p. p.cleared) ps qs turned_ps rules.registers;
    nets = once_moved Net (λ a. a.target) xs ys turned rules.nets;
    clocks_kept = record {
      tested = every_moved (λ p. is_among p.tested (clocks qs) ≡ false) ps qs turned_ps (map_every (λ p. is_among p.tested (clocks ps) ≡ false) (λ p. is_among p.tested (clocks qs) ≡ false) ps (λ p h. sym (among_moved (λ q. q.clock) ps qs p.tested turned_ps) ∙ h) rules.clocks_kept.tested);
      read =
          every_moved (ReadsNone (clocks qs)) (expressions xs ps) (expressions ys qs)
          (IsPermutation-append (map (λ a. a.value) xs) (map (λ a. a.value) ys) (map (λ p. p.data) ps) (map (λ p. p.data) qs) (IsPermutation-map (λ a. a.value) xs ys turned) (IsPermutation-map (λ p. p.data) ps qs turned_ps))
          (map_every (ReadsNone (clocks ps)) (ReadsNone (clocks qs)) (expressions xs ps) (λ e all. map_every (λ n. is_among n (clocks ps) ≡ false) (λ n. is_among n (clocks qs) ≡ false) (names_in e) (λ n h. sym (among_moved (λ q. q.clock) ps qs n turned_ps) ∙ h) all) rules.clocks_kept.read);
    };
    acyclic = record { order = rules.acyclic.order; same = IsPermutation-trans ys xs rules.acyclic.order (IsPermutation-sym xs ys turned) rules.acyclic.same; forward = rules.acyclic.forward };
  }

module _ (m : Module) (ds : List Declared) (ps : List Process) (assigns : List Assignment) (order : IsOrderOf (declared m) ds) (same_ps : IsPermutation (processes m) ps) (same : IsPermutation (assignments m) assigns) where
  -- the rules in name order are those of the form
  pub form_is : KeepsRules ds ps assigns → IsOfForm m
  form_is rules = record {
    declared_once = distinct_moved (λ (d : Declared). d.name) ds (declared m) (IsPermutation-sym (declared m) ds order.same) (distinct_names (names_of ds) order.ascending);
    rules = rules_moved ds (declared m) (IsPermutation-sym (declared m) ds order.same) ps (processes m) assigns (assignments m) (IsPermutation-sym (processes m) ps same_ps) (IsPermutation-sym (assignments m) assigns same) rules;
  }

  pub form_keeps : IsOfForm m → KeepsRules ds ps assigns
  form_keeps form = rules_moved (declared m) ds order.same (processes m) ps (assignments m) assigns same_ps same form.rules

-- ---- sizes and names

pub size_is : (m : Module) (ds : List Declared) (ps : List Process) (assigns : List Assignment) → IsPermutation (declared m) ds → IsPermutation (processes m) ps → IsPermutation (assignments m) assigns
    → size m ≡ length ds + (sum_by (λ a. length (postfix a.value)) assigns + sum_by (λ p. length (postfix p.data)) ps)
size_is m ds ps assigns same same_ps same_assigns =
    omega (arith, length_permutation (declared m) ds same, sum_by-IsPermutation (λ (a : Assignment). length (postfix a.value)) (assignments m) assigns same_assigns, sum_by-IsPermutation (λ (p : Process). length (postfix p.data)) (processes m) ps same_ps)

-- declared names are ASCII, in every order
pub plain_are : (m : Module) (ds : List Declared) → IsTree m → IsPermutation (declared m) ds → AllByRecursion IsPlain (names_of ds)
plain_are m ds is moved = map_back IsPlain (λ (d : Declared). d.name) ds (every_moved (λ d. IsPlain d.name) (declared m) ds moved is)
