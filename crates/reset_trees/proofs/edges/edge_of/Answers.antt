-- An edge is the same where its data reads nothing but what it may.
use Rattle.std.proofs.Common.{◌≡◌, ℕ, ◌<◌, true, false, List, length, get_or, All, Contains, Some, refl, sym, subst, ap, ◌∙◌}
use Rattle.std.specs.Prelude.{slice_get, IfOk}
use Rattle.std.proofs.lemmas.Option.{slice_get-get_or}
use Rattle.net_view.specs.declared.flop_net.SrcKind.TheVariants.{Port}
use Rattle.net_view.specs.FlopNet.{Kind}
use Rattle.net_view.specs.Cone.{Lists, ReadsSource}
use Rattle.cons_bind.specs.Names.{net_of}
use Rattle.reset_trees.specs.declared.answers.Mark.{Mark}
use Rattle.reset_trees.specs.Marking.{ReadsSame}
use Rattle.reset_trees.specs.Problems.{IsEdgeMark}
use Rattle.reset_trees.specs.Same.{IsSame}
use Rattle.reset_trees.proofs.EdgeLemmas.{data_is, data_inside, has_data, reads_inside, same_is}
use Rattle.reset_trees.proofs.edges.edge_of.Goals as goal
use Rattle.reset_trees.proofs.edges.edge_of.Goals.{then-is_same, else-is_same}

pub cone_of-requires : goal.cone_of-requires
cone_of-requires g c =
    let net = net_of (g.V.View.gates c.args.view.now) (g.V.FlopNet.names c.args.view.now) (g.V.FlopNet.kinds c.args.view.now) (g.V.FlopNet.named_bits c.args.view.now) in
    let kind = get_or c.args.kinds.now c.args.flop Port in
    let at = subst (λ (ks : List Kind). slice_get ks c.args.flop ≡ Some kind) c.requires.kinds (slice_get-get_or c.args.kinds.now c.args.flop Port c.requires.flop) in
    let is = data_is net c.args.flop kind c.in-Some.connections c.in-Some.next at (sym c.data_of.ensures ∙ c.in-Some.is) in
    data_inside net (g.V.View.source_count c.args.view.now) c.args.flop c.in-Some.connections c.in-Some.next c.bits-bits.ensures.lawful is

pub is_same-requires-clause-inside : goal.is_same-requires-clause-inside
is_same-requires-clause-inside g c =
    let gates = g.V.View.gates c.args.view.now in
    let lists = subst (λ r. IfOk r (λ read. Lists (ReadsSource gates c.in-Some.next) read)) c.in-Ok.is c.cone_of.ensures in
    subst (λ (xs : List ℕ). All (λ s. s < length c.args.kinds.now) xs) (sym c.as_slice.ensures)
    (reads_inside gates (g.V.View.source_count c.args.view.now) c.in-Some.next (length c.args.kinds.now) c.in-Ok.read c.nodes-nodes.ensures.lawful (ap length c.requires.kinds ∙ c.bits-bits.ensures.lawful.each_kind) lists)

pub returns : goal.returns
returns g c = λ lines are.
    let net = net_of (g.V.View.gates c.args.view.now) (g.V.FlopNet.names c.args.view.now) (g.V.FlopNet.kinds c.args.view.now) (g.V.FlopNet.named_bits c.args.view.now) in
    let n = c.args.flop in
    let flop = c.in-Some.connections in
    let kind = get_or c.args.kinds.now n Port in
    let at = subst (λ (ks : List Kind). slice_get ks n ≡ Some kind) c.requires.kinds (slice_get-get_or c.args.kinds.now n Port c.requires.flop) in
    let is = data_is net n kind flop c.in-Some.next at (sym c.data_of.ensures ∙ c.in-Some.is) in
    let lists = subst (λ r. IfOk r (λ read. Lists (ReadsSource net.gates c.in-Some.next) read)) c.in-Ok.is c.cone_of.ensures in
    let same = same_is net lines c.args.levels.now n flop c.in-Some.next c.in-Ok.read are is lists in
    let Reads : List Kind → List ℕ → Type 0 = λ ks xs. ReadsSame ks c.args.levels.now flop (Contains xs) in
    let mark : IsEdgeMark (IsSame net lines n) c.if-is_same.mark = elim c.if-is_same.branch [
      | then-is_same w ↦
          subst (λ (m : Mark). IsEdgeMark (IsSame net lines n) m) (sym w.mark-is)
          (same.0 (subst (λ (ks : List Kind). Reads ks c.in-Ok.read) c.requires.kinds (subst (λ (xs : List ℕ). Reads c.args.kinds.now xs) c.as_slice.ensures (c.is_same.ensures.0 w.if-is_same.true))))
      | else-is_same w ↦
          subst (λ (m : Mark). IsEdgeMark (IsSame net lines n) m) (sym w.mark-is)
          (λ so.
          let yes = c.is_same.ensures.1 (subst (λ (xs : List ℕ). Reads c.args.kinds.now xs) (sym c.as_slice.ensures) (subst (λ (ks : List Kind). Reads ks c.in-Ok.read) (sym c.requires.kinds) (same.1 so))) in
          let e : true ≡ false = sym yes ∙ w.if-is_same.false in
          absurd cc)
    ] in
    (refl, has_data net n flop c.in-Some.next is, record { by = refl; mark = mark })
