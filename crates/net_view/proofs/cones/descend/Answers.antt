use Rattle.std.proofs.Common.{◌≡◌, ℕ, ◌<◌, List, [], length, arith, subst, heap_items}
use Rattle.std.proofs.lemmas.List.{nil_from_length}
use Rattle.std.proofs.lemmas.List.Sorted.{le_from_greatest}
use Rattle.net_view.proofs.ValuesLemmas.{reads_more}
use Rattle.net_view.proofs.Members.{adds_itself}
use Rattle.net_view.proofs.ConeLemmas.{Walk, walk_start, walk_again, walk_down, walk_end}
use Rattle.net_view.proofs.SourceLemmas.{cones_inside}
use Rattle.net_view.proofs.cones.descend.Goals as goal

pub due-init : goal.due-init
due-init g c = record {
  heap = c.requires.heap;
  walk = rw c.new-found.ensures.items (walk_start _ _ _ _ c.requires.inside c.nodes-last.ensures.count (adds_itself (heap_items c.args.due)));
}

pub put_fan_ins-requires : goal.put_fan_ins-requires
put_fan_ins-requires g c = record {
  reads =
      let gates = g.V.View.gates c.args.view.now in
      let count = g.V.View.source_count c.args.view.now in
      reads_more (λ j. j < c.in-Some.n) (λ s. s < count) (λ j. j < length gates) (λ s. s < count) _ (λ j below. omega (arith, c.due.invariant.walk.inside)) (λ s below. below)
      (c.nodes-last.ensures.lawful.lower _ _ c.gate_at.ensures);
}

pub due-preserved-in-Continue-branch-2 : goal.due-preserved-in-Continue-branch-2
due-preserved-in-Continue-branch-2 g c =
    let popped = c.in-Some.ensures.heap_order c.due.invariant.heap in
    record {
      heap = c.in_ok-put_fan_ins.ensures.heap popped.0;
      walk =
          rw c.in_ok-push.ensures.items
          (walk_down _ _ _ _ _ _ _ _ _ _ c.nodes-last.ensures.lawful c.due.invariant.walk c.in-Some.ensures.permutation c.if-n-last.true
          (le_from_greatest _ _ (c.in-Some.ensures.below_top c.due.invariant.heap)) c.gate_at.ensures c.in_ok-put_fan_ins.ensures.items);
    }

pub due-preserved : goal.due-preserved
due-preserved g c =
    let popped = c.in-Some.ensures.heap_order c.due.invariant.heap in
    record { heap = popped.0; walk = walk_again _ _ _ _ _ _ _ c.due.invariant.walk c.in-Some.ensures.permutation c.if-n-last.false }

pub returns-clause-nodes : goal.returns-clause-nodes
returns-clause-nodes g c =
    let empty : heap_items c.due.due ≡ [] = nil_from_length (heap_items c.due.due) (omega (arith, c.in_default.ensures.none, c.due.due.data.ok)) in
    rw c.reverse.ensures.items
    (walk_end _ _ _ _ (subst (λ (zs : List ℕ). Walk (g.V.View.gates c.args.view.now) (heap_items c.args.due) zs c.due.found.items c.due.last) empty c.due.invariant.walk))

pub returns-clause-inside : goal.returns-clause-inside
returns-clause-inside g c = cones_inside _ _ _ _ c.nodes-last.ensures.lawful c.requires.inside (returns-clause-nodes g c)
