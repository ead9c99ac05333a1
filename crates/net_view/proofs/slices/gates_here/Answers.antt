use Rattle.std.proofs.Common.{◌<◌, ◌∷◌, [], length, map, get_or, sym, ◌∙◌, ap, arith}
use Rattle.std.proofs.lemmas.List.{map-append}
use Rattle.net_view.specs.View.{Numbered, renumbered, IsGateAt}
use Rattle.net_view.specs.Slice.{in_whole}
use Rattle.net_view.proofs.ValuesLemmas.{some, reads_more}
use Rattle.net_view.proofs.SliceLemmas.{cuts_more}
use Rattle.net_view.proofs.slices.gates_here.Goals as goal

pub gate_here-requires-clause-in_whole : goal.gate_here-requires-clause-in_whole
gate_here-requires-clause-in_whole g c =
    let gates = g.V.View.gates c.args.whole.now in
    let count = g.V.View.source_count c.args.whole.now in
    let n = get_or c.args.nodes.now c.nodes.n-index 0 in
    let n-in = c.requires.nodes_inside c.nodes.n-index 0 c.nodes-test.true in
    reads_more (λ j. j < n) (λ s. s < count) (λ j. j < length gates) (λ s. s < count) _ (λ j low. omega (arith, n-in)) (λ s low. low) (c.nodes-nodes.ensures.lawful.lower _ _ c.gate_at.ensures)

pub nodes-preserved : goal.nodes-preserved
nodes-preserved g c =
    let whole = g.V.View.gates c.args.whole.now in
    let back : Numbered → Numbered = renumbered (λ n. n) (λ s. s) in
    let here = back c.gate_here.result in
    let is : IsGateAt whole (get_or c.args.nodes.now c.nodes.n-index 0) (in_whole c.args.nodes.now c.args.sources.now here) = c.gate_at.ensures ∙ ap some (sym c.gate_here.ensures.same) in
    let more = cuts_more whole c.args.nodes.now c.args.sources.now (map back c.nodes.gates.items) c.nodes.n-index here c.nodes.invariant is c.gate_here.ensures.inside in
    rw (c.in_ok-push.ensures.items, map-append back c.nodes.gates.items (c.gate_here.result ∷ [])) more
