use Rattle.std.proofs.Common.{◌<◌, ℕ, List, map, All, get_or, sym, subst, ap, ◌∙◌}
use Rattle.std.proofs.lemmas.List.{get_or_default}
use Rattle.net_view.specs.Cone.{Lists, ReadsSource}
use Rattle.net_view.proofs.PinLemmas.{read_inside}
use Rattle.reset_trees.proofs.cone.cone_of.Goals as goal

pub numbers_of-requires : goal.numbers_of-requires
numbers_of-requires g c =
    let number = g.V.View.source_number in
    let count = g.V.View.source_count c.args.view.now in
    let read = c.in_ok-read.read.items in
    subst (λ (xs : List g.row.V-Src.Denot). All (λ s. number s < count) xs) (sym c.deref.ensures.value)
    (λ k d lt. read_inside (g.V.View.gates c.args.view.now) count (g.V.View.node_number c.in-Some.root) number read k (get_or read k d) c.nodes-nodes.ensures.lawful c.in_ok-read.ensures lt (get_or_default read k d (get_or read k d) lt))

pub returns : goal.returns
returns g c =
    let gates = g.V.View.gates c.args.view.now in
    let number = g.V.View.source_number in
    let found = c.in_ok-numbers_of.field-0 in
    subst (λ (n : ℕ). Lists (ReadsSource gates n) found) c.in-Some.ensures.1
    (subst (λ (ks : List ℕ). Lists (ReadsSource gates (g.V.View.node_number c.in-Some.root)) ks) (sym (c.in_ok-numbers_of.ensures ∙ ap (map number) c.deref.ensures.value)) c.in_ok-read.ensures)
