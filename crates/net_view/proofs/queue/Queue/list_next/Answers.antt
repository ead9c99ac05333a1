use Rattle.std.proofs.Common.{◌≡◌, ◌<◌, ◌≤◌, ℕ, List, [], ◌∷◌, ◌++◌, length, map, All, inl, arith, subst, sym, ap, ◌∙◌, heap_items}
use Rattle.std.specs.Prelude.{slice_index_or}
use Rattle.std.proofs.lemmas.List.{length-append, get_or_default}
use Rattle.std.proofs.lemmas.List.Elements.{All-map, All-weaker, All-from_recursion}
use Rattle.std.proofs.lemmas.List.Sorted.{Contains-permutation, IsPermutation-map, IsPermutation-sym}
use Rattle.std.proofs.lemmas.Map.Keys.{ge_from_not_lt}
use Rattle.net_view.specs.Queue.{Nexts}
use Rattle.net_view.proofs.Members.{contains_head}
use Rattle.net_view.proofs.ListingLemmas.{list_least, next_least, nexts_more}
use Rattle.net_view.proofs.queue.Queue.list_next.Goals as goal

pub index_mut-requires : goal.index_mut-requires
index_mut-requires c =
    let needs = c.args.self.now.needs.now in
    let f = c.in-Some.field-0.0 in
    let moved = IsPermutation-map (λ r. r.0) _ _ c.in-Some.ensures.permutation in
    let f-in : f < length needs = c.requires.is.inside f (inl (inl (Contains-permutation (f ∷ map (λ r. r.0) (heap_items c.pop.new.self)) (map (λ r. r.0) (heap_items c.args.self.now.ready)) f (IsPermutation-sym _ _ moved) (contains_head f _)))) in
    omega (arith, f-in, c.requires.is.listed_len, c.args.self.now.listed.ok)

pub index_mut-waiting-requires : goal.index_mut-waiting-requires
index_mut-waiting-requires c =
    let needs = c.args.self.now.needs.now in
    let f = c.in-Some.field-0.0 in
    let moved = IsPermutation-map (λ r. r.0) _ _ c.in-Some.ensures.permutation in
    let f-in : f < length needs = c.requires.is.inside f (inl (inl (Contains-permutation (f ∷ map (λ r. r.0) (heap_items c.pop.new.self)) (map (λ r. r.0) (heap_items c.args.self.now.ready)) f (IsPermutation-sym _ _ moved) (contains_head f _)))) in
    omega (arith, f-in, c.requires.is.waiting_len, c.args.self.now.waiting.ok)

pub returns-clause-next : goal.returns-clause-next
returns-clause-next c =
    let needs = c.args.self.now.needs.now in
    let f = c.in-Some.field-0.0 in
    let moved = IsPermutation-map (λ r. r.0) _ _ c.in-Some.ensures.permutation in
    let f-in : f < length needs = c.requires.is.inside f (inl (inl (Contains-permutation (f ∷ map (λ r. r.0) (heap_items c.pop.new.self)) (map (λ r. r.0) (heap_items c.args.self.now.ready)) f (IsPermutation-sym _ _ moved) (contains_head f _)))) in
    let waiting = c.args.self.now.waiting.items in
    let order = c.args.self.now.order.items in
    let ready = map (λ r. r.0) (heap_items c.args.self.now.ready) in
    let rest = map (λ r. r.0) (heap_items c.pop.new.self) in
    let bound = All-from_recursion _ (heap_items c.pop.new.self) (c.in-Some.ensures.below_top c.requires.heap) in
    let low : All (λ y. f ≤ y) rest = All-map (λ y. f ≤ y) (λ r. r.0) (heap_items c.pop.new.self) (All-weaker _ (λ r. f ≤ r.0) (λ r h. ge_from_not_lt r.0 f h) (heap_items c.pop.new.self) bound) in
    let pushed : c.push.new.self.items ≡ order ++ f ∷ [] = c.in_ok-push.ensures.items in
    let gone : c.replace.result ≡ slice_index_or waiting f [] =
    c.replace.ensures.value ∙ c.index_mut-waiting.ensures.value ∙ get_or_default waiting f c.index_mut-waiting.result.now [] (omega (arith, f-in, c.requires.is.waiting_len)) in
    let cleared : c.replace.new.dest ≡ [] = c.replace.ensures.after ∙ c.new.ensures in
    let next = next_least _ _ _ _ _ ready rest order f moved low c.requires.is in
    let listed = list_least needs c.args.self.now.at.items waiting c.args.self.now.queued.items c.args.self.now.listed.items ready rest order f moved c.requires.is in (
      ap length pushed ∙ length-append order (f ∷ []),
      record {
        heap = (c.in-Some.ensures.heap_order c.requires.heap).0;
        nexts = subst (λ (xs : List ℕ). Nexts needs xs) (sym pushed) (nexts_more needs order f c.requires.nexts next);
        is = rw (pushed, gone, cleared) listed;
      },
    )
