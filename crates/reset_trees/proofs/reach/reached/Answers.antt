-- One more number's steps are looked at.
use Rattle.std.proofs.Common.{◌≡◌, ◌+◌, ◌<◌, ℕ, List, [], Bool, get_or, length, Contains, sym, subst, ap, ◌∙◌, arith}
use Rattle.std.specs.Prelude.{slice_index, slice_index_or}
use Rattle.std.proofs.lemmas.List.{get_or_default}
use Rattle.std.proofs.lemmas.List.Elements.{Contains-get_or}
use Rattle.std.proofs.lemmas.List.Sorted.{IsNonDecreasingBy-from_sort}
use Rattle.reset_trees.specs.Reach.{IsFound, Visits}
use Rattle.reset_trees.proofs.ReachLemmas.{Reaching, found_none, reach_start, reach_more, reach_short, reach_end}
use Rattle.reset_trees.proofs.StepLemmas.{written_back}
use Rattle.reset_trees.proofs.reach.reached.Goals as goal

pub visit-requires : goal.visit-requires
visit-requires c =
    let marks = c.deref_mut.result.now in
    record {
      inside = λ k d lt. let low = c.requires.seeds k d lt in omega (arith, low, ap length c.deref_mut.ensures.value, c.in_ok-marks.ensures.len, c.in_ok-marks.marks.ok);
      found = subst (λ (fs : List ℕ). IsFound marks fs) (sym c.new-found.ensures.items) (found_none marks _ (c.deref_mut.ensures.value ∙ c.in_ok-marks.ensures.items_if_clones_equal (λ y h. h)));
    }

pub found-init : goal.found-init
found-init c =
    let new = c.visit.new.marks in
    let items = c.in_ok-marks.marks.items in
    let found = c.visit.new.found.items in
    let same : length new ≡ length items = c.visit.auto.marks ∙ ap length c.deref_mut.ensures.value in
    let visits = subst (λ (old : List ℕ). Visits c.args.seeds.now old found) c.new-found.ensures.items c.in_ok-visit.ensures.visits in
    subst (λ (ms : List Bool). Reaching c.args.steps.now c.args.seeds.now 0 ms found) (sym (written_back new items c.in_ok-marks.marks.len same (omega (arith, same, c.in_ok-marks.marks.ok))))
    (reach_start c.args.steps.now c.args.seeds.now new found (omega (arith, same, c.in_ok-marks.ensures.len, c.in_ok-marks.marks.ok)) c.in_ok-visit.ensures.found visits)

pub visit-requires-in-found-clause-inside : goal.visit-requires-in-found-clause-inside
visit-requires-in-found-clause-inside c k d lt =
    let steps = c.args.steps.now in
    let found = c.found.found.items in
    let n = c.index-n.result.now in
    let at-in : c.found.at < length found = omega (arith, c.found-test.true, c.len.ensures, c.found.found.ok) in
    let low = c.found.invariant.listed.inside c.found.at n at-in in
    let n-in : n < length steps = omega (arith, low, c.index-n.ensures, c.found.invariant.len) in
    let row : c.as_slice.result.now ≡ slice_index_or steps n [] = c.as_slice.ensures ∙ c.index-steps-n.is ∙ get_or_default steps n c.index-steps-n.result [] n-in in
    let led = c.requires.closed n (get_or c.as_slice.result.now k d) (subst (λ (xs : List ℕ). Contains xs (get_or c.as_slice.result.now k d)) row (Contains-get_or c.as_slice.result.now k d lt)) in
    omega (arith, led, c.found.invariant.len, ap length c.deref_mut-in-found.ensures.value)

pub found-preserved : goal.found-preserved
found-preserved c =
    let steps = c.args.steps.now in
    let seeds = c.args.seeds.now in
    let found = c.found.found.items in
    let at = c.found.at in
    let n = c.index-n.result.now in
    let new = c.visit-in-found.new.marks in
    let items = c.found.marks.items in
    let found' = c.visit-in-found.new.found.items in
    let at-in : at < length found = omega (arith, c.found-test.true, c.len.ensures, c.found.found.ok) in
    let low = c.found.invariant.listed.inside at n at-in in
    let n-in : n < length steps = omega (arith, low, c.index-n.ensures, c.found.invariant.len) in
    let n-is : n ≡ slice_index found at = c.index-n.ensures ∙ get_or_default found at n 0 at-in in
    let row : c.as_slice.result.now ≡ slice_index_or steps (slice_index found at) [] =
    c.as_slice.ensures ∙ c.index-steps-n.is ∙ get_or_default steps n c.index-steps-n.result [] n-in ∙ ap (λ (z : ℕ). slice_index_or steps z []) n-is in
    let same : length new ≡ length items = c.visit-in-found.auto.marks ∙ ap length c.deref_mut-in-found.ensures.value in
    let visits = subst (λ (xs : List ℕ). Visits xs found found') row c.in_ok-visit-2.ensures.visits in
    subst (λ (ms : List Bool). Reaching steps seeds (at + 1) ms found') (sym (written_back new items c.found.marks.len same (omega (arith, same, c.found.marks.ok))))
    (reach_more steps seeds at items new found found' at-in same c.found.invariant c.in_ok-visit-2.ensures.found visits)

pub found-smaller : goal.found-smaller
found-smaller c =
    let short = reach_short c.args.steps.now c.args.seeds.now c.found.at c.found.marks.items c.found.found.items c.found.invariant in
    omega (arith, short, c.found-test.true, c.len.ensures, c.found.found.ok)

pub returns : goal.returns
returns c =
    reach_end c.args.steps.now c.args.seeds.now c.found.at c.found.marks.items c.found.found.items c.sort_unstable.new.self.items (omega (arith, c.found-test.false, c.len.ensures, c.found.found.ok)) c.found.invariant
    c.sort_unstable.ensures.permutation (IsNonDecreasingBy-from_sort (λ x. x) c.sort_unstable.new.self.items c.sort_unstable.ensures.sorted)
