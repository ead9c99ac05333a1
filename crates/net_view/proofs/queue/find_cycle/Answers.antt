use Rattle.std.proofs.Common.{◌≡◌, ◌<◌, ℕ, false, List, [], ◌∷◌, ◌++◌, length, get_or, drop, sym, ap, subst, ◌∙◌, arith}
use Rattle.std.proofs.lemmas.List.{get_or_default, length-append}
use Rattle.std.proofs.lemmas.Result.{IfOk-weaker}
use Rattle.net_view.specs.Queue.{needs_of, is_marked, Turns}
use Rattle.net_view.proofs.QueueLemmas.{apart_short}
use Rattle.net_view.proofs.CycleLemmas.{path_more, cycle_end}
use Rattle.net_view.proofs.queue.find_cycle.Goals as goal

pub path-smaller : goal.path-smaller
path-smaller c =
    let needs = c.args.needs.now in
    let f = c.path.f in
    let p = c.path.invariant in
    let new : is_marked c.path.seen.items f ≡ false =
    get_or_default c.path.seen.items f false c.index.result.now (let inside = p.f_in in omega (arith, p.seen_len)) ∙ sym c.index.ensures ∙ c.path-test.true in
    let more = path_more needs c.args.at.now c.args.listed.now c.path.seen.items c.path.path.items f c.requires.stuck p new in
    let short = apart_short (c.path.path.items ++ f ∷ []) (length needs) more.inside more.apart in
    omega (arith, short, length-append c.path.path.items (f ∷ []), ap length c.in_ok-push.ensures.items)

pub path-preserved : goal.path-preserved
path-preserved c =
    let needs = c.args.needs.now in
    let f = c.path.f in
    let p = c.path.invariant in
    let new : is_marked c.path.seen.items f ≡ false =
    get_or_default c.path.seen.items f false c.index.result.now (let inside = p.f_in in omega (arith, p.seen_len)) ∙ sym c.index.ensures ∙ c.path-test.true in
    let more = path_more needs c.args.at.now c.args.listed.now c.path.seen.items c.path.path.items f c.requires.stuck p new in
    let row-is : c.as_slice.result.now ≡ needs_of needs f = c.as_slice.ensures ∙ c.index-needs-f.is ∙ get_or_default needs f c.index-needs-f.result [] p.f_in in
    rw (c.in_ok-push.ensures.items, row-is) more

pub returns : goal.returns
returns c =
    let needs = c.args.needs.now in
    let path = c.path.path.items in
    let j = c.first_place.result in
    let listed : c.deref-2.result.now ≡ path = c.deref-2.ensures.value in
    let j-in : j < length path = subst (λ (xs : List ℕ). j < length xs) listed c.first_place.ensures.inside in
    let here : get_or path j 0 ≡ c.path.f = subst (λ (xs : List ℕ). get_or xs j 0 ≡ c.path.f) listed c.first_place.ensures.here in
    let cycle-is : c.split_at.result.1.now ≡ drop j path = c.split_at.ensures.back ∙ ap (drop j) c.deref.ensures.value in
    IfOk-weaker c.turned.result (λ turned. Turns c.split_at.result.1.now turned.items) _
    (λ turned turns. cycle_end needs c.args.at.now c.args.listed.now c.path.seen.items path turned.items c.path.f j c.path.invariant j-in here (subst (λ (xs : List ℕ). Turns xs turned.items) cycle-is turns))
    c.turned.ensures
