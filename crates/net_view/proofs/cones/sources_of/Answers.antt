use Rattle.std.proofs.Common.{◌≡◌, ◌<◌, ◌+◌, ◌++◌, ◌∷◌, [], ℕ, List, length, take, get_or, map, All, subst, sym, rules, Vec, Global}
use Rattle.std.proofs.lemmas.List.Sorted.{All-permutation}
use Rattle.std.proofs.lemmas.List.{take_all}
use Rattle.std.proofs.lemmas.List.Sorted.{IsNonDecreasingBy-from_sort_by_key}
use Rattle.net_view.specs.declared.gate.Gate.TheVariants.{Source}
use Rattle.net_view.specs.View.{IsGateAt}
use Rattle.net_view.proofs.SourceLemmas.{Found, found_source, found_other, pairs_sorted, still_none, pairs_push, keys_push}
use Rattle.net_view.proofs.cones.sources_of.Goals as goal
use Rattle.net_view.proofs.cones.sources_of.Goals.{in-Source+in_ok-push, in_default}

pub src_index-requires : goal.src_index-requires
src_index-requires g c = c.nodes-nodes.ensures.lawful.lower _ _ (rw c.in-Source.is at c.gate_at.ensures)

pub nodes-preserved : goal.nodes-preserved
nodes-preserved g c =
    let number = g.V.View.source_number in
    let gates = g.V.View.gates c.args.view.now in
    let lt : c.nodes.n-index < length c.args.nodes.now = c.nodes-test.true in
    let done = take (c.nodes.n-index + 1) c.args.nodes.now in
    let Done : List (ℕ × g.row.V-Src.Denot) → Type 0 = λ ps. record { numbers : All (λ p. p.0 ≡ number p.1) ps; found : Found gates done (map (λ p. p.0) ps) } in
    elim c.match-gate_at.branch [
      | in-Source+in_ok-push w ↦
          let pairs = c.nodes.found.items ++ (w.src_index.result, w.in-Source.s) ∷ [] in
          let items-is : c.match-gate_at.found.items ≡ pairs = rw w.found-is w.in_ok-push.ensures.items in
          let is : IsGateAt gates (get_or c.args.nodes.now c.nodes.n-index 0) (Source (number w.in-Source.s)) = rw w.in-Source.is at c.gate_at.ensures in
          let keys = found_source gates _ c.args.nodes.now _ c.nodes.n-index w.src_index.result c.nodes-nodes.ensures.lawful c.requires.rising lt c.nodes.invariant.found (rw w.src_index.ensures is) in
          subst Done (sym items-is) (record {
            numbers = pairs_push number c.nodes.found.items w.src_index.result w.in-Source.s w.src_index.ensures c.nodes.invariant.numbers;
            found = subst (λ (ks : List ℕ). Found gates done ks) (sym (keys_push c.nodes.found.items w.src_index.result w.in-Source.s)) keys;
          })
      | in_default w ↦
          subst (λ (v : Vec (ℕ × g.row.V-Src.Denot) Global). Done v.items) (sym w.found-is) (record {
            numbers = c.nodes.invariant.numbers;
            found = found_other gates c.args.nodes.now _ c.nodes.n-index _ lt c.nodes.invariant.found c.gate_at.ensures (still_none g.V.View.node_number number c.gate_at.result w.in_default.not-Source);
          })
    ]

pub returns-clause-numbers : goal.returns-clause-numbers
returns-clause-numbers g c = All-permutation (λ p. p.0 ≡ g.V.View.source_number p.1) _ _ c.sort_unstable_by_key.ensures.permutation c.nodes.invariant.numbers

pub returns-clause-sources : goal.returns-clause-sources
returns-clause-sources g c =
    pairs_sorted _ _ c.nodes.found.items c.sort_unstable_by_key.new.self.items
    (subst (λ (ns : List ℕ). Found (g.V.View.gates c.args.view.now) ns (map (λ p. p.0) c.nodes.found.items)) (take_all c.nodes.n-index c.args.nodes.now c.nodes-test.false) c.nodes.invariant.found) c.sort_unstable_by_key.ensures.permutation
    (IsNonDecreasingBy-from_sort_by_key (λ p. p.0) _ c.sort_unstable_by_key.ensures.sorted (λ a r q k. search rules))
