use Rattle.std.proofs.Common.{◌≡◌, ◌<◌, ℕ, length, inl, inr, sym, subst, ap, ◌∙◌, map, List, [], heap_items}
use Rattle.std.proofs.lemmas.Result.{IfOk-weaker}
use Rattle.net_view.specs.Cone.{Lists, ReadsSource}
use Rattle.net_view.specs.Due.{Adds, IsSourceAmong}
use Rattle.net_view.proofs.Members.{contains_none, All-from_contains}
use Rattle.net_view.proofs.SourceLemmas.{cone_sources, sources_numbers}
use Rattle.net_view.proofs.cones.cone.Goals as goal

pub descend-requires-clause-inside : goal.descend-requires-clause-inside
descend-requires-clause-inside g c =
    let one : Adds (λ j. j ≡ g.V.View.node_number c.args.n) [] (heap_items c.put.new.due) = subst (λ (zs : List ℕ). Adds (λ j. j ≡ g.V.View.node_number c.args.n) zs (heap_items c.put.new.due)) c.new-due.ensures.items c.in_ok-put.ensures.items in
    All-from_contains (λ n. n < length (g.V.View.gates c.args.view.now)) _
    (λ n h. elim ((one.each n).0 h) [ inl is ↦ subst (λ (k : ℕ). k < length (g.V.View.gates c.args.view.now)) (sym is) c.requires | inr none ↦ absurd (contains_none n none) ])

pub returns : goal.returns
returns g c =
    let number = g.V.View.source_number in
    let gates = g.V.View.gates c.args.view.now in
    let root = g.V.View.node_number c.args.n in
    let pairs = c.in_ok-sources.sources.items in
    let one : Adds (λ j. j ≡ root) [] (heap_items c.put.new.due) = subst (λ (zs : List ℕ). Adds (λ j. j ≡ root) zs (heap_items c.put.new.due)) c.new-due.ensures.items c.in_ok-put.ensures.items in
    let nodes = c.in_ok-nodes.nodes.items in
    let among = subst (λ (ns : List ℕ). Lists (IsSourceAmong gates ns) (map (λ p. p.0) pairs)) c.deref.ensures.value c.in_ok-sources.ensures.sources in
    let all = cone_sources gates root (heap_items c.put.new.due) nodes (map (λ p. p.0) pairs) one c.in_ok-nodes.ensures.nodes among in
    IfOk-weaker c.bare.result (λ v. v.items ≡ map (λ p. p.1) pairs) _
    (λ v is. subst (λ (ks : List ℕ). Lists (ReadsSource gates root) ks) (sym (ap (map number) is ∙ sources_numbers number pairs c.in_ok-sources.ensures.numbers)) all) c.bare.ensures
