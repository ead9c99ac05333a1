use Rattle.std.proofs.Common.{◌≡◌, ◌<◌, ◌+◌, ◌≤◌, [], ℕ, List, Some, length, get_or, drop, sym, ap, subst, ◌∙◌, arith}
use Rattle.std.proofs.lemmas.Grind.{get_or_default_zero}
use Rattle.std.proofs.lemmas.List.{length-map, drop_more, drop_all}
use Rattle.thin_form.specs.Netlist.{formula_at, formulas}
use Rattle.thin_form.specs.Values.{rules_at, value_of, formulas_at, IsReadable, ReadsSources, IsWhole}
use Rattle.thin_form.proofs.Faults.{passed_on}
use Rattle.thin_form.proofs.Formulas.{grown_further, not_grown}
use Rattle.thin_form.proofs.Wired.{IsWiring, wiring_first, wiring_last, wiring_more, next_inside, next_readable, rule_is, room_left, room_now, each_at, ordered_sum, sources_grown}
use Rattle.thin_form.proofs.wiring.wires.Goals as goal

pub loop-w-init : goal.loop-w-init
loop-w-init c =
    let rs = rules_at c.args.rules.now in
    let count : length c.in_ok-wires.wires.items ≡ length rs = omega (arith, c.in_ok-wires.ensures.len, length-map c.args.rules.now (λ r. r.items)) in
    let sums = ordered_sum rs c.args.order.now c.requires.order in
    record {
      wiring = wiring_first c.args.nodes.now.items c.in_ok-wires.wires.items rs c.args.order.now count c.requires.order;
      grown = not_grown c.args.nodes.now.items;
      few = omega (arith, sums);
    }

pub bounds-rules-w : goal.bounds-rules-w
bounds-rules-w c =
    let rs = rules_at c.args.rules.now in
    let i = c.loop-w.w-index in
    let order = c.args.order.now in
    let w = get_or order i 0 in
    let left = drop (i + 1) order in
    let nodes = c.loop-w.nodes.items in
    let wires = c.loop-w.wires.items in
    let wiring = subst (IsWiring nodes wires rs) (drop_more order i 0 c.loop-w-test.true) c.loop-w.invariant.wiring in
    let inside = next_inside nodes nodes wires rs w left wiring in
    omega (arith, inside, length-map c.args.rules.now (λ r. r.items))

pub evaluate-requires-clause-few : goal.evaluate-requires-clause-few
evaluate-requires-clause-few c =
    let rs = rules_at c.args.rules.now in
    let i = c.loop-w.w-index in
    let order = c.args.order.now in
    let w = get_or order i 0 in
    let left = drop (i + 1) order in
    let nodes = c.loop-w.nodes.items in
    let wires = c.loop-w.wires.items in
    let wiring = subst (IsWiring nodes wires rs) (drop_more order i 0 c.loop-w-test.true) c.loop-w.invariant.wiring in
    let inside = next_inside nodes nodes wires rs w left wiring in
    let rule = rule_is (λ r. r.items) c.args.rules.now w c.index-rules-w.result (omega (arith, inside, length-map c.args.rules.now (λ r. r.items))) c.index-rules-w.is ∙ sym c.deref.ensures.value in
    let room = room_now (λ (v : ℕ). length (get_or rs v [])) order i w (length nodes) _ c.loop-w-test.true (sym (get_or_default_zero order i w c.loop-w-test.true)) c.loop-w.invariant.few in
    omega (arith, room, c.requires.few, ap length rule)

pub evaluate-requires-clause-readable : goal.evaluate-requires-clause-readable
evaluate-requires-clause-readable c =
    let rs = rules_at c.args.rules.now in
    let i = c.loop-w.w-index in
    let order = c.args.order.now in
    let w = get_or order i 0 in
    let left = drop (i + 1) order in
    let nodes = c.loop-w.nodes.items in
    let wires = c.loop-w.wires.items in
    let wiring = subst (IsWiring nodes wires rs) (drop_more order i 0 c.loop-w-test.true) c.loop-w.invariant.wiring in
    let inside = next_inside nodes nodes wires rs w left wiring in
    let rule = rule_is (λ r. r.items) c.args.rules.now w c.index-rules-w.result (omega (arith, inside, length-map c.args.rules.now (λ r. r.items))) c.index-rules-w.is ∙ sym c.deref.ensures.value in
    let sources = sources_grown c.args.nodes.now.items nodes (get_or rs w []) c.loop-w.invariant.grown (each_at (ReadsSources c.args.nodes.now.items) rs w [] inside c.requires.sources) in
    let readable = next_readable nodes nodes wires rs w left wiring sources in
    subst (λ (ws : List ℕ). IsReadable nodes ws c.deref.result.now) (sym c.deref-in-loop-w.ensures.value) (subst (IsReadable nodes wires) rule readable)

pub index_mut-requires : goal.index_mut-requires
index_mut-requires c =
    let rs = rules_at c.args.rules.now in
    let i = c.loop-w.w-index in
    let order = c.args.order.now in
    let w = get_or order i 0 in
    let left = drop (i + 1) order in
    let nodes = c.loop-w.nodes.items in
    let wires = c.loop-w.wires.items in
    let wiring = subst (IsWiring nodes wires rs) (drop_more order i 0 c.loop-w-test.true) c.loop-w.invariant.wiring in
    let inside = next_inside nodes nodes wires rs w left wiring in
    let within : w < length wires = omega (arith, inside, wiring.count) in
    omega arith

pub returns-in-Err-clause-of_form : goal.returns-in-Err-clause-of_form
returns-in-Err-clause-of_form c = λ fault.
    let rs = rules_at c.args.rules.now in
    let i = c.loop-w.w-index in
    let order = c.args.order.now in
    let w = get_or order i 0 in
    let left = drop (i + 1) order in
    let nodes = c.loop-w.nodes.items in
    let wires = c.loop-w.wires.items in
    let wiring = subst (IsWiring nodes wires rs) (drop_more order i 0 c.loop-w-test.true) c.loop-w.invariant.wiring in
    let inside = next_inside nodes nodes wires rs w left wiring in
    let rule = rule_is (λ r. r.items) c.args.rules.now w c.index-rules-w.result (omega (arith, inside, length-map c.args.rules.now (λ r. r.items))) c.index-rules-w.is ∙ sym c.deref.ensures.value in
    let none = c.in-Err.ensures.not_of_form (passed_on _ _ fault) in
    each_at IsWhole rs w [] inside c.requires.whole (formulas_at nodes c.deref-in-loop-w.result.now) (ap (value_of (formulas_at nodes c.deref-in-loop-w.result.now)) rule ∙ none)

pub loop-w-preserved : goal.loop-w-preserved
loop-w-preserved c =
    let rs = rules_at c.args.rules.now in
    let i = c.loop-w.w-index in
    let order = c.args.order.now in
    let w = get_or order i 0 in
    let left = drop (i + 1) order in
    let nodes = c.loop-w.nodes.items in
    let wires = c.loop-w.wires.items in
    let wiring = subst (IsWiring nodes wires rs) (drop_more order i 0 c.loop-w-test.true) c.loop-w.invariant.wiring in
    let inside = next_inside nodes nodes wires rs w left wiring in
    let rule = rule_is (λ r. r.items) c.args.rules.now w c.index-rules-w.result (omega (arith, inside, length-map c.args.rules.now (λ r. r.items))) c.index-rules-w.is ∙ sym c.deref.ensures.value in
    let new = c.evaluate.new.nodes.items in
    let value : value_of (formulas_at nodes wires) (get_or rs w []) ≡ Some (formula_at (formulas new) c.in-Ok.k) = ap (value_of (formulas_at nodes wires)) rule ∙ ap (λ (ws : List ℕ). value_of (formulas_at nodes ws) c.deref.result.now) (sym c.deref-in-loop-w.ensures.value) ∙ c.in-Ok.ensures.value in
    let used : length new ≤ length nodes + length (get_or rs w []) = omega (arith, c.in-Ok.ensures.few, ap length rule) in
    record {
      wiring = wiring_more nodes new wires rs w left wiring c.in-Ok.k c.in-Ok.ensures.grown c.in-Ok.ensures.within value;
      grown = grown_further c.args.nodes.now.items nodes new c.loop-w.invariant.grown c.in-Ok.ensures.grown;
      few = room_left (λ (v : ℕ). length (get_or rs v [])) order i w (length nodes) (length new) _ c.loop-w-test.true (sym (get_or_default_zero order i w c.loop-w-test.true)) c.loop-w.invariant.few used;
    }

pub returns-clause-made : goal.returns-clause-made
returns-clause-made c =
    let rs = rules_at c.args.rules.now in
    let wiring = subst (IsWiring c.loop-w.nodes.items c.loop-w.wires.items rs) (drop_all c.loop-w.w-index c.args.order.now c.loop-w-test.false) c.loop-w.invariant.wiring in
    wiring_last c.loop-w.nodes.items c.loop-w.wires.items rs wiring
