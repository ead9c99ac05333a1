use Rattle.std.proofs.Common.{◌≡◌, ◌≤◌, ◌+◌, ◌++◌, ◌∷◌, [], ℕ, List, length, map, All, subst, sym, ap, ◌∙◌, arith, Vec, Global, ◌<◌}
use Rattle.std.specs.Borrow.{Bor}
use Rattle.std.proofs.lemmas.List.{map-append, length-append}
use Rattle.std.proofs.lemmas.List.Elements.{All-push}
use Rattle.std.proofs.lemmas.Option.{get_or_from_slice_get}
use Rattle.net_view.specs.PinOrder.{name_of, IsFlopNode}
use Rattle.net_view.specs.Places.{AreNamed, AreFlops}
use Rattle.net_view.proofs.NameLemmas.{flops_more, flops_same}
use Rattle.net_view.proofs.pins.named_flops.Goals as goal
use Rattle.net_view.proofs.pins.named_flops.Goals.{in-Some+in_ok-push, in_default}

pub nodes-preserved : goal.nodes-preserved
nodes-preserved g c =
    let number = g.V.View.source_number in
    let gates = g.V.View.gates c.args.view.now in
    let kinds = g.V.FlopNet.kinds c.args.view.now in
    let names = g.V.FlopNet.names c.args.view.now in
    let count = g.V.View.source_count c.args.view.now in
    let n = c.nodes.n in
    let old = c.nodes.flops.items in
    let Done : List (Bor (List ℕ) × ℕ × g.row.V-Src.Denot) → Type 0 = λ fs. record {
      few : length fs ≤ n + 1;
      named : AreNamed number count names fs;
      flops : AreFlops gates kinds (n + 1) (map (λ f. f.1) fs);
    } in
    elim c.match-flop_at.branch [
      | in-Some+in_ok-push w ↦
          let s = w.in-Some.s in
          let flop : Bor (List ℕ) × ℕ × g.row.V-Src.Denot = (w.name.result, w.src_index.result, s) in
          let is = rw w.in-Some.is at c.flop_at.ensures in
          let items-is : c.match-flop_at.flops.items ≡ old ++ flop ∷ [] = rw w.flops-is w.in_ok-push.ensures.items in
          let name-is : name_of names w.src_index.result ≡ w.name.result.now = ap (name_of names) w.src_index.ensures ∙ get_or_from_slice_get names (number s) w.name.result.now [] w.name.ensures in
          subst Done (sym items-is) (record {
            few = simp length-append (omega (arith, c.nodes.invariant.few));
            named = All-push (λ f. (number f.2 < count) × (number f.2 ≡ f.1) × (name_of names f.1 ≡ f.0.now)) old flop c.nodes.invariant.named (is.0, sym w.src_index.ensures, name-is);
            flops = subst (λ (zs : List ℕ). AreFlops gates kinds (n + 1) zs) (sym (map-append (λ f. f.1) old (flop ∷ [])))
                (flops_more gates kinds count n w.src_index.result (map (λ f. f.1) old) c.nodes-n-end.ensures.lawful (subst (λ (z : ℕ). IsFlopNode gates kinds n z) (sym w.src_index.ensures) is.1) c.nodes.invariant.flops);
          })
      | in_default w ↦
          subst Done (ap (λ (v : Vec (Bor (List ℕ) × ℕ × g.row.V-Src.Denot) Global). v.items) (sym w.flops-is)) (record {
            few = omega (arith, c.nodes.invariant.few);
            named = c.nodes.invariant.named;
            flops = flops_same gates kinds n (map (λ f. f.1) old) w.in_default.ensures c.nodes.invariant.flops;
          })
    ]

pub returns-clause-flops : goal.returns-clause-flops
returns-clause-flops g c =
    let end : c.nodes.n ≡ length (g.V.View.gates c.args.view.now) = omega (arith, c.nodes-test.false, c.nodes.auto.n-end, c.nodes-n-end.ensures.count) in
    subst (λ (z : ℕ). AreFlops (g.V.View.gates c.args.view.now) (g.V.FlopNet.kinds c.args.view.now) z (map (λ f. f.1) c.nodes.flops.items)) end c.nodes.invariant.flops
