use Rattle.std.proofs.Common.{◌≡◌, ◌<◌, ◌∷◌, [], ℕ, Some, length, get_or, sym, ap, subst, ◌∙◌, arith}
use Rattle.std.proofs.lemmas.List.{length-map, length-append}
use Rattle.thin_form.specs.Netlist.{formula_at, formulas}
use Rattle.thin_form.specs.Values.{rules_at, value_of, formulas_at, IsReadable, IsMade, ReadsSources, ReadsWires, IsWhole}
use Rattle.thin_form.proofs.Faults.{passed_on}
use Rattle.thin_form.proofs.Formulas.{grown_further, kept_formula, longer}
use Rattle.thin_form.proofs.Applied.{wire_value}
use Rattle.thin_form.proofs.Wired.{rule_is, room_mapped, each_at, sources_grown, made_more, value_same}
use Rattle.thin_form.proofs.wiring.values.Goals as goal

pub evaluate-requires-clause-readable : goal.evaluate-requires-clause-readable
evaluate-requires-clause-readable c =
    let rs = rules_at c.args.rules.now in
    let i = c.loop-rule.rule-index in
    let old = c.args.nodes.now.items in
    let nodes = c.loop-rule.nodes.items in
    let wires = c.args.wires.now in
    let inside : i < length rs = omega (arith, length-map c.args.rules.now (λ r. r.items)) in
    let rule = rule_is (λ r. r.items) c.args.rules.now i c.rule-item.result c.loop-rule-test.true c.rule-item.is ∙ sym c.deref.ensures.value in
    let low : (v : ℕ) → v < length wires → get_or wires v 0 < length nodes = λ v lt. let was : get_or wires v 0 < length old = each_at (λ k. k < length old) wires v 0 lt c.requires.wires in omega (arith, was, longer old nodes c.loop-rule.invariant.grown) in
    let sources = sources_grown old nodes (get_or rs i []) c.loop-rule.invariant.grown (each_at (ReadsSources old) rs i [] inside c.requires.sources) in
    let wide = each_at (ReadsWires wires) rs i [] inside c.requires.reads in
    subst (IsReadable nodes wires) rule (record { reads_wires = λ v h. (wide v h, low v (wide v h)); reads_sources = sources })

pub returns-in-Err-clause-of_form : goal.returns-in-Err-clause-of_form
returns-in-Err-clause-of_form c = λ fault.
    let rs = rules_at c.args.rules.now in
    let i = c.loop-rule.rule-index in
    let old = c.args.nodes.now.items in
    let nodes = c.loop-rule.nodes.items in
    let wires = c.args.wires.now in
    let inside : i < length rs = omega (arith, length-map c.args.rules.now (λ r. r.items)) in
    let rule = rule_is (λ r. r.items) c.args.rules.now i c.rule-item.result c.loop-rule-test.true c.rule-item.is ∙ sym c.deref.ensures.value in
    let low : (v : ℕ) → v < length wires → get_or wires v 0 < length nodes = λ v lt. let was : get_or wires v 0 < length old = each_at (λ k. k < length old) wires v 0 lt c.requires.wires in omega (arith, was, longer old nodes c.loop-rule.invariant.grown) in
    each_at IsWhole rs i [] inside c.requires.whole (formulas_at nodes wires) (ap (value_of (formulas_at nodes wires)) rule ∙ c.in-Err.ensures.not_of_form (passed_on _ _ fault))

pub loop-rule-preserved : goal.loop-rule-preserved
loop-rule-preserved c =
    let rs = rules_at c.args.rules.now in
    let i = c.loop-rule.rule-index in
    let old = c.args.nodes.now.items in
    let nodes = c.loop-rule.nodes.items in
    let wires = c.args.wires.now in
    let inside : i < length rs = omega (arith, length-map c.args.rules.now (λ r. r.items)) in
    let rule = rule_is (λ r. r.items) c.args.rules.now i c.rule-item.result c.loop-rule-test.true c.rule-item.is ∙ sym c.deref.ensures.value in
    let low : (v : ℕ) → v < length wires → get_or wires v 0 < length nodes = λ v lt. let was : get_or wires v 0 < length old = each_at (λ k. k < length old) wires v 0 lt c.requires.wires in omega (arith, was, longer old nodes c.loop-rule.invariant.grown) in
    let new = c.evaluate.new.nodes.items in
    let grown = c.in-Ok.ensures.grown in
    let wide = each_at (ReadsWires wires) rs i [] inside c.requires.reads in
    let value : value_of (formulas_at new wires) (get_or rs i []) ≡ Some (formula_at (formulas new) c.in-Ok.k) =
    value_same (formulas_at new wires) (formulas_at nodes wires) (get_or rs i []) (λ v h. wire_value new wires v (wide v h) ∙ kept_formula nodes new (get_or wires v 0) grown (low v (wide v h)) ∙ sym (wire_value nodes wires v (wide v h)))
    ∙ ap (value_of (formulas_at nodes wires)) rule ∙ c.in-Ok.ensures.value in
    let made : IsMade new wires (get_or rs i []) c.in-Ok.k = record { within = c.in-Ok.ensures.within; value = value } in
    record {
      grown = grown_further old nodes new c.loop-rule.invariant.grown grown;
      few = room_mapped (λ r. r.items) c.args.rules.now i c.rule-item.result (length c.deref.result.now) (length nodes) (length new) _ c.loop-rule-test.true c.rule-item.is (ap length c.deref.ensures.value) c.loop-rule.invariant.few c.in-Ok.ensures.few;
      count = omega (arith, ap length c.in_ok-push-in-Ok.ensures.items, length-append {A = ℕ} c.loop-rule.out.items (c.in-Ok.k ∷ []), c.loop-rule.invariant.count);
      made = made_more nodes new wires rs c.loop-rule.out.items c.push.new.self.items i c.in-Ok.k grown c.loop-rule.invariant.count c.in_ok-push-in-Ok.ensures.items inside c.requires.reads low made c.loop-rule.invariant.made;
    }
