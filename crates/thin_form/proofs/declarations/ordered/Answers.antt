use Rattle.std.proofs.Common.{rules, ◌≡◌, List, map, sym, ap, subst, ◌∙◌}
use Rattle.std.specs.List.{IsDistinct}
use Rattle.std.specs.List.Sorted.{IsPermutation}
use Rattle.std.specs.Str.{bytes_eq}
use Rattle.std.proofs.lemmas.List.Sorted.{answers_always, IsPermutation-map}
use Rattle.std.proofs.lemmas.Simd.{map-map}
use Rattle.thin_tree.specs.Tree as tree
use Rattle.thin_tree.specs.declared.tree.Declared.{Declared}
use Rattle.thin_tree.specs.Written.{a_declared, all_declared, a_module}
use Rattle.thin_form.specs.Design.{IsAscending}
use Rattle.thin_form.specs.Rules.{declared, names_of}
use Rattle.thin_form.proofs.Orders.{sorted_ascends, distinct_moved}
use Rattle.thin_form.proofs.declarations.ordered.Goals as goal

-- a list that was sorted and does not ascend has a name twice
unsorted : (ds : List tree.Declared) (bs cs : List Declared) → all_declared bs ≡ ds → IsPermutation bs cs → IsDistinct bytes_eq (names_of ds) → IsDistinct bytes_eq (map (λ (d : Declared). d.name.now) cs)
unsorted ds bs cs e p apart =
    let named : names_of (all_declared bs) ≡ map (λ (d : Declared). d.name.now) bs = map-map (λ (d : tree.Declared). d.name) a_declared bs in
    distinct_moved (λ (d : Declared). d.name.now) bs cs p (subst (IsDistinct bytes_eq) (ap names_of (sym e) ∙ named) apart)

pub returns-then-not-ascends-clause-not_of_form : goal.returns-then-not-ascends-clause-not_of_form
returns-then-not-ascends-clause-not_of_form c = λ fault apart.
    let cs = c.sort_by_key.new.self.items in
    let sorted = c.in_ok-sort_by_key.ensures.sorted (λ (x : Declared). x.name) (answers_always _ _ _ (λ f a r g called. search rules)) in
    let apart_now = unsorted (declared (a_module c.args.parsed.now)) c.in_ok-declared.declared.items cs c.in_ok-declared.ensures c.in_ok-sort_by_key.ensures.permutation apart in
    let up = sorted_ascends (λ (d : Declared). d.name.now) cs sorted apart_now in
    let named : map (λ (d : Declared). d.name.now) cs ≡ names_of (all_declared c.deref.result.now) = sym (map-map (λ (d : tree.Declared). d.name) a_declared cs) ∙ ap (λ (xs : List Declared). names_of (all_declared xs)) (sym c.deref.ensures.value) in
    let rises = c.ascends.ensures.1 (subst IsAscending named up) in
    absurd cc

pub returns-clause-order : goal.returns-clause-order
returns-clause-order c =
    record {
      same = subst (λ (xs : List tree.Declared). IsPermutation xs (all_declared c.sort_by_key.new.self.items)) c.in_ok-declared.ensures (IsPermutation-map a_declared c.in_ok-declared.declared.items c.sort_by_key.new.self.items c.in_ok-sort_by_key.ensures.permutation);
      ascending = subst (λ (xs : List Declared). IsAscending (names_of (all_declared xs))) c.deref.ensures.value (c.ascends.ensures.0 c.if-not-ascends.false);
    }
