-- Each source is looked at.
use Rattle.std.proofs.Common.{◌≡◌, ◌+◌, ◌∙◌, List, length, Option, sym, subst, ap, arith}
use Rattle.std.specs.Prelude.{MatchOption}
use Rattle.cons_bind.specs.Names.{net_of}
use Rattle.reset_trees.specs.declared.answers.Marked.{Marked}
use Rattle.reset_trees.specs.Problems.{IsEdge}
use Rattle.reset_trees.specs.Reads.{HasData}
use Rattle.reset_trees.proofs.EdgeLemmas.{EdgesBelow, edges_more, edges_skip, edges_all, match_none}
use Rattle.reset_trees.proofs.edges.edges_of.Goals as goal
use Rattle.reset_trees.proofs.edges.edges_of.Goals.{in-Some+in_ok-push, in_default}

pub sources-preserved : goal.sources-preserved
sources-preserved g c = λ lines are.
    let net = net_of (g.V.View.gates c.args.view.now) (g.V.FlopNet.names c.args.view.now) (g.V.FlopNet.kinds c.args.view.now) (g.V.FlopNet.named_bits c.args.view.now) in
    let n = c.sources.flop in
    let Found : Option Marked → Type 0 = λ o. MatchOption o (HasData net n → ⊥) (λ (edge : Marked). (edge.flop ≡ n) × HasData net n × IsEdge net lines edge) in
    let Done : List Marked → Type 0 = λ es. EdgesBelow net lines (n + 1) es in
    elim c.match-branch-2.branch [
      | in-Some+in_ok-push w ↦
          let edge = w.in-Some.edge in
          let found = subst Found w.in-Some.is (c.in_ok-edge.ensures lines are) in
          subst Done (sym (w.edges-is ∙ w.in_ok-push.ensures.ok)) (edges_more net lines n edge c.sources.edges found.0 found.1 found.2 (c.sources.invariant lines are))
      | in_default w ↦
          subst Done (sym w.edges-is) (edges_skip net lines n c.sources.edges (match_none c.in_ok-edge.field-0 (HasData net n → ⊥) (λ (edge : Marked). (edge.flop ≡ n) × HasData net n × IsEdge net lines edge) w.in_default.not-Some (c.in_ok-edge.ensures lines are)) (c.sources.invariant lines are))
    ]

pub returns : goal.returns
returns g c = λ lines are.
    let net = net_of (g.V.View.gates c.args.view.now) (g.V.FlopNet.names c.args.view.now) (g.V.FlopNet.kinds c.args.view.now) (g.V.FlopNet.named_bits c.args.view.now) in
    edges_all net lines c.sources.flop c.sources.edges (omega (arith, ap length c.requires.kinds, c.sources-test.false)) (c.sources.invariant lines are)
