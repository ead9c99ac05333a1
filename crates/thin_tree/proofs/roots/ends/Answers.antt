use Rattle.std.proofs.Common.{◌≡◌, ℕ, ◌^◌, List, map, ap, ◌∙◌, arith}
use Rattle.thin_tree.specs.Copies.{sources, targets, at_place, walk, most_steps}
use Rattle.thin_tree.specs.Places.{places_at}
use Rattle.thin_tree.specs.Written.{texts, all_copies}
use Rattle.thin_tree.proofs.Leading.{one-step, doubled-walks}
use Rattle.thin_tree.proofs.roots.ends.Goals as goal

pub loop-round-init : goal.loop-round-init
loop-round-init c =
    let cs = all_copies c.args.links.now in
    let t = places_at c.args.places.now in
    let from = ap texts c.deref.ensures.value ∙ c.in_ok-sources.ensures in
    let to = ap texts c.deref-2.ensures.value ∙ c.in_ok-targets.ensures in
    c.in_ok-ends.ensures ∙ ap (λ (ss : List (List ℕ)). map (λ e. at_place ss e (t e)) (texts c.deref-2.result.now)) from
    ∙ ap (map (λ e. at_place (sources cs) e (t e))) to ∙ one-step cs t c.requires

pub loop-round-preserved : goal.loop-round-preserved
loop-round-preserved c =
    let cs = all_copies c.args.links.now in
    let t = places_at c.args.places.now in
    let ends = texts c.loop-round.ends.items in
    c.in_ok-ends-2.ensures ∙ ap (λ (ss : List (List ℕ)). map (λ e. at_place ss e (t e)) (texts c.deref-in-loop-round-2.result.now)) (ap texts c.deref-in-loop-round.ensures.value)
    ∙ ap (map (λ e. at_place ends e (t e))) (ap texts c.deref-in-loop-round-2.ensures.value) ∙ doubled-walks cs t c.loop-round.round ends c.requires c.loop-round.invariant

pub returns : goal.returns
unfolding most_steps
returns c =
    let cs = all_copies c.args.links.now in
    let last : c.loop-round.round ≡ 20 = omega arith in
    c.loop-round.invariant ∙ ap (λ (k : ℕ). map (walk cs (2 ^ k)) (targets cs)) last
