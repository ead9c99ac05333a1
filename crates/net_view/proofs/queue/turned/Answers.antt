use Rattle.std.proofs.Common.{◌≡◌, ℕ, suc, List, ◌∷◌, ◌++◌, get_or, take, drop, sym, ap, ◌∙◌, arith, drop-cons}
use Rattle.std.proofs.lemmas.List.{take-append-drop}
use Rattle.net_view.proofs.Members.{contains_at}
use Rattle.net_view.proofs.queue.turned.Goals as goal

pub returns : goal.returns
returns c =
    let cycle = c.args.cycle.now in
    let k = c.items.least in
    let parts : drop k cycle ≡ get_or cycle k 0 ∷ drop (suc k) cycle = drop-cons cycle k 0 c.items.invariant.inside in
    let all = c.in_ok-extend_from_slice-2.ensures.items in
    let some = c.in_ok-extend_from_slice.ensures.items in
    record {
      front = take k cycle;
      least = get_or cycle k 0;
      rest = drop (suc k) cycle;
      was = sym (take-append-drop k cycle) ∙ ap (λ (ys : List ℕ). take k cycle ++ ys) parts;
      is = all ∙ ap (λ (ys : List ℕ). ys ++ c.split_at.result.0.now) (some ∙ ap (λ (ys : List ℕ). ys ++ c.split_at.result.1.now) c.new-turned.ensures.items ∙ c.split_at.ensures.back ∙ parts)
          ∙ ap (λ (ys : List ℕ). (get_or cycle k 0 ∷ drop (suc k) cycle) ++ ys) c.split_at.ensures.front;
      lowest = λ n h.
          let there = contains_at cycle n h in
          let low = c.items.invariant.lowest there.0 (omega (arith, there.1)) in
          omega (arith, there.2);
    }
