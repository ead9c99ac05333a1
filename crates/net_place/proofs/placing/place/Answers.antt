use Rattle.std.proofs.Common.{◌≡◌, ◌+◌, ◌<◌, refl, sym, subst, ap, ◌∙◌, Some, [], length, All, List, Option, drop, slice_index_or, arith}
use Rattle.net_view.specs.View.{Numbered}
use Rattle.net_core.specs.Net.{Net, with_gates}
use Rattle.net_gates.specs.Gates.{IsGateList}
use Rattle.net_order.specs.Order.{reads, IsInOrder}
use Rattle.net_place.specs.Places.{made, gate_at}
use Rattle.net_place.specs.Ready.{AreRooted, AreLeaves, ReadsPlaced}
use Rattle.net_place.proofs.Standing.{IsOnWay, begun_way, next_reads, next_way, dropped, all_placed}
use Rattle.net_place.proofs.placing.place.Goals as goal

pub gates-init : goal.gates-init
gates-init c =
    let gates = c.gates-gates.result.now in
    let same = sym c.gates-gates.ensures.gates in
    record {
      way = begun_way gates c.args.roots.now c.args.sources.now c.args.order.now c.args.net.now.gates c.in_ok-places.places.items c.in_ok-places.ensures
          (subst (λ (gs : List Numbered). All (λ k. k < length gs) c.args.order.now) same c.requires.inside)
          (subst (λ (gs : List Numbered). IsInOrder (reads gs c.args.roots.now) [] c.args.order.now) same c.requires.ready)
          c.requires.sources;
      net = refl;
    }

pub stand-requires-clause-reads : goal.stand-requires-clause-reads
stand-requires-clause-reads c =
    let gates = c.gates-gates.result.now in
    let same = sym c.gates-gates.ensures.gates in
    let roots = c.args.roots.now in
    let sources = c.args.sources.now in
    let order = c.args.order.now in
    let k = slice_index_or order c.gates.i 0 in
    subst (λ (p : List (Option _)). ReadsPlaced (length c.gates.net.gates) roots sources p (gate_at gates k)) (sym c.deref.ensures.value)
    (next_reads gates roots sources order _ c.gates.net.gates c.gates.places.items k (drop (c.gates.i + 1) order)
    (subst (λ (gs : List Numbered). AreRooted (length gs) roots) same c.requires.roots)
    (subst (λ (gs : List Numbered). AreLeaves (length roots + length sources) gs) same c.requires.leaves)
    (subst IsGateList same c.gates-gates.ensures.lawful)
    (subst (IsOnWay gates roots sources order _ c.gates.net.gates c.gates.places.items) (dropped order c.gates.i c.gates-test.true) c.gates.invariant.way))

pub gates-preserved : goal.gates-preserved
gates-preserved c =
    let gates = c.gates-gates.result.now in
    let roots = c.args.roots.now in
    let sources = c.args.sources.now in
    let order = c.args.order.now in
    let k = slice_index_or order c.gates.i 0 in
    record {
      way = next_way gates roots sources order _ c.gates.net.gates c.gates.places.items k c.in_ok-node.node (drop (c.gates.i + 1) order) c.stand.new.net.gates
          c.stand.ensures.grows c.in_ok-node.ensures.inside
          (subst (λ (p : List (Option _)). made roots sources (record { gates = c.gates.net.gates; places = p }) (gate_at gates k) ≡ Some (record { node = c.in_ok-node.node; gates = c.stand.new.net.gates })) c.deref.ensures.value c.in_ok-node.ensures.made)
          (subst (IsOnWay gates roots sources order _ c.gates.net.gates c.gates.places.items) (dropped order c.gates.i c.gates-test.true) c.gates.invariant.way);
      net = c.in_ok-node.ensures.net ∙ ap (λ (n : Net). with_gates n c.stand.new.net.gates) c.gates.invariant.net;
    }

pub returns-clause-stand : goal.returns-clause-stand
returns-clause-stand c = all_placed c.gates-gates.result.now c.args.roots.now c.args.sources.now c.args.order.now _ c.gates.net.gates c.gates.places.items c.gates.i (omega (arith, c.gates-test.false)) c.gates.invariant.way
