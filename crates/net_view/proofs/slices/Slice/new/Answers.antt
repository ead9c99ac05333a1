use Rattle.std.proofs.Common.{◌≡◌, ℕ, ◌<◌, ◌^◌, List, length, map, inl, inr, get_or, refl, sym, subst, ap, ◌∙◌, arith, Contains}
use Rattle.std.proofs.lemmas.List.{get_or-map, length-map}
use Rattle.std.proofs.lemmas.List.Elements.{All-map, All-contains, Contains-get_or}
use Rattle.net_view.specs.View.{Numbered, renumbered}
use Rattle.net_view.specs.Slice.{HasGatesOf}
use Rattle.net_view.specs.Cone.{Lists, SomeReadsSource}
use Rattle.net_view.specs.Due.{Cuts, IsSourceAmong}
use Rattle.net_view.proofs.Members.{contains_none, All-from_contains, rising_short}
use Rattle.net_view.proofs.SourceLemmas.{sources_numbers}
use Rattle.net_view.proofs.SliceLemmas.{cuts_values, cuts_net, cones_hold, cones_sources, sources_inside, roots_cones, root_there, slice_cut}
use Rattle.net_view.proofs.slices.Slice.new.Goals as goal

pub descend-requires-clause-inside : goal.descend-requires-clause-inside
descend-requires-clause-inside g c =
    let whole = g.V.View.gates c.args.whole.now in
    let number = g.V.View.node_number in
    let all = All-map (λ (r : ℕ). r < length whole) number c.args.roots.now c.requires in
    All-from_contains (λ n. n < length whole) _
    (λ n h. elim ((c.in_ok-due.ensures.items.each n).0 h) [ inl there ↦ All-contains (λ n. n < length whole) _ n all there | inr none ↦ absurd (contains_none n none) ])

pub gates_here-requires-clause-nodes_small : goal.gates_here-requires-clause-nodes_small
gates_here-requires-clause-nodes_small g c =
    let short = rising_short c.in_ok-nodes.nodes.items (length (g.V.View.gates c.args.whole.now)) c.in_ok-nodes.ensures.nodes.ascending c.in_ok-nodes.ensures.inside in
    omega (arith, short, ap length c.deref-3.ensures.value, c.nodes-nodes.ensures.count, c.nodes-nodes.type_inv)

pub gates_here-requires-clause-sources_small : goal.gates_here-requires-clause-sources_small
gates_here-requires-clause-sources_small g c =
    let whole = g.V.View.gates c.args.whole.now in
    let pairs = c.in_ok-read.read.items in
    let keys = map (λ p. p.0) pairs in
    let nodes = c.in_ok-nodes.nodes.items in
    let number = g.V.View.source_number in
    let among = subst (λ (ns : List ℕ). Lists (IsSourceAmong whole ns) keys) c.deref.ensures.value c.in_ok-read.ensures.sources in
    let listed : c.deref-4.result.now ≡ keys = c.deref-4.ensures.value ∙ c.in_ok-numbers.ensures ∙ ap (λ (ps : List (ℕ × g.row.V-Src.Denot)). map (λ p. p.0) ps) c.deref-2.ensures.value in
    let short = rising_short keys (g.V.View.source_count c.args.whole.now) among.ascending (sources_inside whole _ nodes keys c.nodes-nodes.ensures.lawful among) in
    omega (arith, short, ap length listed, c.sources-sources.ensures, c.sources-sources.type_inv)

pub gates_here-requires-clause-holds : goal.gates_here-requires-clause-holds
gates_here-requires-clause-holds g c =
    let whole = g.V.View.gates c.args.whole.now in
    let pairs = c.in_ok-read.read.items in
    let keys = map (λ p. p.0) pairs in
    let nodes = c.in_ok-nodes.nodes.items in
    let number = g.V.View.source_number in
    let among = subst (λ (ns : List ℕ). Lists (IsSourceAmong whole ns) keys) c.deref.ensures.value c.in_ok-read.ensures.sources in
    let listed : c.deref-4.result.now ≡ keys = c.deref-4.ensures.value ∙ c.in_ok-numbers.ensures ∙ ap (λ (ps : List (ℕ × g.row.V-Src.Denot)). map (λ p. p.0) ps) c.deref-2.ensures.value in
    let in-cones = roots_cones whole (map g.V.View.node_number c.args.roots.now) _ nodes c.in_ok-due.ensures.items c.in_ok-nodes.ensures.nodes in
    let holds = cones_hold whole _ nodes keys in-cones among in
    rw (c.deref-3.ensures.value, listed) holds

pub invariant_of-result : goal.invariant_of-result
invariant_of-result g c =
    let whole = g.V.View.gates c.args.whole.now in
    let pairs = c.in_ok-read.read.items in
    let keys = map (λ p. p.0) pairs in
    let nodes = c.in_ok-nodes.nodes.items in
    let number = g.V.View.source_number in
    let among = subst (λ (ns : List ℕ). Lists (IsSourceAmong whole ns) keys) c.deref.ensures.value c.in_ok-read.ensures.sources in
    let listed : c.deref-4.result.now ≡ keys = c.deref-4.ensures.value ∙ c.in_ok-numbers.ensures ∙ ap (λ (ps : List (ℕ × g.row.V-Src.Denot)). map (λ p. p.0) ps) c.deref-2.ensures.value in
    let back : Numbered → Numbered = renumbered (λ n. n) (λ s. s) in
    let cut-nodes = subst (λ (ns : List ℕ). Cuts whole ns c.deref-4.result.now (map back c.in_ok-gates.gates.items) (length ns)) c.deref-3.ensures.value c.in_ok-gates.ensures in
    let cuts = subst (λ (ks : List ℕ). Cuts whole nodes ks (map back c.in_ok-gates.gates.items) (length nodes)) listed cut-nodes in
    let same : map number c.in_ok-sources.sources.items ≡ keys = ap (map number) c.in_ok-sources.ensures ∙ sources_numbers number pairs c.in_ok-read.ensures.numbers in
    let few : length whole < 2 ^ 32 = omega (arith, c.nodes-nodes.ensures.count, c.nodes-nodes.type_inv) in
    let few-sources : g.V.View.source_count c.args.whole.now < 2 ^ 32 = omega (arith, c.sources-sources.ensures, c.sources-sources.type_inv) in
    rw same (slice_cut whole _ _ nodes keys c.nodes-nodes.ensures.lawful few few-sources c.in_ok-nodes.ensures.nodes.ascending c.in_ok-nodes.ensures.inside among cuts)

pub returns-clause-slice : goal.returns-clause-slice
returns-clause-slice g c =
    let whole = g.V.View.gates c.args.whole.now in
    let pairs = c.in_ok-read.read.items in
    let keys = map (λ p. p.0) pairs in
    let nodes = c.in_ok-nodes.nodes.items in
    let number = g.V.View.source_number in
    let among = subst (λ (ns : List ℕ). Lists (IsSourceAmong whole ns) keys) c.deref.ensures.value c.in_ok-read.ensures.sources in
    let listed : c.deref-4.result.now ≡ keys = c.deref-4.ensures.value ∙ c.in_ok-numbers.ensures ∙ ap (λ (ps : List (ℕ × g.row.V-Src.Denot)). map (λ p. p.0) ps) c.deref-2.ensures.value in
    let back : Numbered → Numbered = renumbered (λ n. n) (λ s. s) in
    let cut-nodes = subst (λ (ns : List ℕ). Cuts whole ns c.deref-4.result.now (map back c.in_ok-gates.gates.items) (length ns)) c.deref-3.ensures.value c.in_ok-gates.ensures in
    let cuts = subst (λ (ks : List ℕ). Cuts whole nodes ks (map back c.in_ok-gates.gates.items) (length nodes)) listed cut-nodes in
    let same : map number c.in_ok-sources.sources.items ≡ keys = ap (map number) c.in_ok-sources.ensures ∙ sources_numbers number pairs c.in_ok-read.ensures.numbers in
    let in-cones = roots_cones whole (map g.V.View.node_number c.args.roots.now) _ nodes c.in_ok-due.ensures.items c.in_ok-nodes.ensures.nodes in
    record {
      of_whole = refl;
      of_sources = refl;
      nodes = in-cones;
      sources = subst (λ (ks : List ℕ). Lists (SomeReadsSource whole (map g.V.View.node_number c.args.roots.now)) ks) (sym same) (cones_sources whole _ nodes keys in-cones among);
      gates = subst (λ (ks : List ℕ). HasGatesOf (record { whole = whole; whole_sources = g.V.View.source_count c.args.whole.now; gates = map back c.in_ok-gates.gates.items; nodes = nodes; sources = ks })) (sym same) cuts.each_gate;
    }

pub returns-clause-values : goal.returns-clause-values
returns-clause-values g c =
    let whole = g.V.View.gates c.args.whole.now in
    let pairs = c.in_ok-read.read.items in
    let keys = map (λ p. p.0) pairs in
    let nodes = c.in_ok-nodes.nodes.items in
    let number = g.V.View.source_number in
    let among = subst (λ (ns : List ℕ). Lists (IsSourceAmong whole ns) keys) c.deref.ensures.value c.in_ok-read.ensures.sources in
    let listed : c.deref-4.result.now ≡ keys = c.deref-4.ensures.value ∙ c.in_ok-numbers.ensures ∙ ap (λ (ps : List (ℕ × g.row.V-Src.Denot)). map (λ p. p.0) ps) c.deref-2.ensures.value in
    let back : Numbered → Numbered = renumbered (λ n. n) (λ s. s) in
    let cut-nodes = subst (λ (ns : List ℕ). Cuts whole ns c.deref-4.result.now (map back c.in_ok-gates.gates.items) (length ns)) c.deref-3.ensures.value c.in_ok-gates.ensures in
    let cuts = subst (λ (ks : List ℕ). Cuts whole nodes ks (map back c.in_ok-gates.gates.items) (length nodes)) listed cut-nodes in
    let same : map number c.in_ok-sources.sources.items ≡ keys = ap (map number) c.in_ok-sources.ensures ∙ sources_numbers number pairs c.in_ok-read.ensures.numbers in
    let net = c.nodes-nodes.ensures.lawful in
    let cut-net = cuts_net whole _ nodes keys _ net c.in_ok-nodes.ensures.nodes.ascending among cuts in
    rw same (cuts_values whole _ nodes keys _ net cut-net cuts)

pub returns-clause-roots : goal.returns-clause-roots
returns-clause-roots g c =
    let whole = g.V.View.gates c.args.whole.now in
    let number = g.V.View.node_number in
    let nodes = c.in_ok-nodes.nodes.items in
    let in-cones = roots_cones whole (map g.V.View.node_number c.args.roots.now) _ nodes c.in_ok-due.ensures.items c.in_ok-nodes.ensures.nodes in
    λ k d lt.
    root_there whole _ nodes in-cones (number (get_or c.args.roots.now k d))
    (subst (λ (r : ℕ). Contains (map number c.args.roots.now) r) (get_or-map number c.args.roots.now k d 0 lt) (Contains-get_or (map number c.args.roots.now) k 0 (omega (arith, length-map c.args.roots.now number))))
