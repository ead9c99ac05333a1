use Rattle.std.proofs.Common.{◌<◌, ◌∷◌, [], ℕ, List, Some, length, reverse, inl, refl, sym, ap, subst, ◌∙◌}
use Rattle.std.specs.List.{AllByRecursion}
use Rattle.thin_form.specs.Values.{after_term, formulas_at, IsReadable}
use Rattle.thin_form.specs.declared.kind.Node.TheVariants as node
use Rattle.thin_form.specs.declared.term.Term.{Term}
use Rattle.thin_form.specs.declared.term.Term.TheVariants.{Not, And, Or}
use Rattle.thin_form.proofs.Ways.{end_first}
use Rattle.thin_form.proofs.Applied.{below_pushed, gate_below, gate_values}
use Rattle.thin_form.proofs.gates.apply.Goals as goal

pub bounds-wires-w : goal.bounds-wires-w
bounds-wires-w c = let is = subst (λ (t : Term). IsReadable c.args.nodes.now.items c.args.wires.now (t ∷ [])) c.in-Wire.is c.requires.readable in (is.reads_wires c.in-Wire.w (inl refl)).0

pub returns-in_ok-push-in-Source-clause-stack : goal.returns-in_ok-push-in-Source-clause-stack
returns-in_ok-push-in-Source-clause-stack c = λ _.
    let is = subst (λ (t : Term). IsReadable c.args.nodes.now.items c.args.wires.now (t ∷ [])) c.in-Source.is c.requires.readable in
    below_pushed c.args.nodes.now.items c.args.stack.now.items c.push.new.self.items c.in-Source.n c.in_ok-push-in-Source.ensures.items (is.reads_sources c.in-Source.n (inl refl)).0 c.requires.stack

pub returns-in_ok-push-in-Not-clause-stack : goal.returns-in_ok-push-in-Not-clause-stack
returns-in_ok-push-in-Not-clause-stack c = λ _.
    let old = c.args.nodes.now.items in
    let low = subst (AllByRecursion (λ k. k < length old)) (end_first c.pop.new.self.items c.args.stack.now.items c.in-Some.a c.in-Some.ensures.items) c.requires.stack in
    gate_below old c.push-in-Not.new.nodes.items c.pop.new.self.items c.push-in-Not-2.new.self.items c.in_ok-k-in-Not.k (node.Not c.in-Some.a) c.in_ok-k-in-Not.ensures.nodes low.0 c.in_ok-k-in-Not.ensures.number c.in_ok-push-in-Not.ensures.items low.1

pub returns-in_ok-push-in-Not-clause-value : goal.returns-in_ok-push-in-Not-clause-value
returns-in_ok-push-in-Not-clause-value c = λ _.
    let old = c.args.nodes.now.items in
    let ws = formulas_at old c.args.wires.now in
    let shape = end_first c.pop.new.self.items c.args.stack.now.items c.in-Some.a c.in-Some.ensures.items in
    let low = subst (AllByRecursion (λ k. k < length old)) shape c.requires.stack in
    let values = gate_values old c.push-in-Not.new.nodes.items c.pop.new.self.items c.push-in-Not-2.new.self.items c.in_ok-k-in-Not.k (node.Not c.in-Some.a) c.in_ok-k-in-Not.ensures.nodes low.0 c.in_ok-k-in-Not.ensures.number c.in_ok-push-in-Not.ensures.items low.1 in
    ap (λ (t : Term). after_term ws t (formulas_at old (reverse c.args.stack.now.items))) c.in-Not.is
    ∙ ap (λ (ks : List ℕ). after_term ws Not (formulas_at old ks)) shape ∙ ap Some (sym values)

pub returns-in_ok-push-in-And-clause-stack : goal.returns-in_ok-push-in-And-clause-stack
returns-in_ok-push-in-And-clause-stack c = λ _.
    let old = c.args.nodes.now.items in
    let low = subst (AllByRecursion (λ k. k < length old)) c.in-Some-pair.ensures c.requires.stack in
    gate_below old c.push-in-And.new.nodes.items c.pair.new.stack.items c.push-in-And-2.new.self.items c.in_ok-k-in-And.k (node.And c.in-Some-pair.a c.in-Some-pair.b) c.in_ok-k-in-And.ensures.nodes (low.1.0, low.0) c.in_ok-k-in-And.ensures.number c.in_ok-push-in-And.ensures.items low.1.1

pub returns-in_ok-push-in-And-clause-value : goal.returns-in_ok-push-in-And-clause-value
returns-in_ok-push-in-And-clause-value c = λ _.
    let old = c.args.nodes.now.items in
    let ws = formulas_at old c.args.wires.now in
    let low = subst (AllByRecursion (λ k. k < length old)) c.in-Some-pair.ensures c.requires.stack in
    let values = gate_values old c.push-in-And.new.nodes.items c.pair.new.stack.items c.push-in-And-2.new.self.items c.in_ok-k-in-And.k (node.And c.in-Some-pair.a c.in-Some-pair.b) c.in_ok-k-in-And.ensures.nodes (low.1.0, low.0) c.in_ok-k-in-And.ensures.number c.in_ok-push-in-And.ensures.items low.1.1 in
    ap (λ (t : Term). after_term ws t (formulas_at old (reverse c.args.stack.now.items))) c.in-And.is
    ∙ ap (λ (ks : List ℕ). after_term ws And (formulas_at old ks)) c.in-Some-pair.ensures ∙ ap Some (sym values)

pub returns-in_ok-push-in-Or-clause-stack : goal.returns-in_ok-push-in-Or-clause-stack
returns-in_ok-push-in-Or-clause-stack c = λ _.
    let old = c.args.nodes.now.items in
    let low = subst (AllByRecursion (λ k. k < length old)) c.in-Some-pair-2.ensures c.requires.stack in
    gate_below old c.push-in-Or.new.nodes.items c.pair-in-Or.new.stack.items c.push-in-Or-2.new.self.items c.in_ok-k-in-Or.k (node.Or c.in-Some-pair-2.a c.in-Some-pair-2.b) c.in_ok-k-in-Or.ensures.nodes (low.1.0, low.0) c.in_ok-k-in-Or.ensures.number c.in_ok-push-in-Or.ensures.items low.1.1

pub returns-in_ok-push-in-Or-clause-value : goal.returns-in_ok-push-in-Or-clause-value
returns-in_ok-push-in-Or-clause-value c = λ _.
    let old = c.args.nodes.now.items in
    let ws = formulas_at old c.args.wires.now in
    let low = subst (AllByRecursion (λ k. k < length old)) c.in-Some-pair-2.ensures c.requires.stack in
    let values = gate_values old c.push-in-Or.new.nodes.items c.pair-in-Or.new.stack.items c.push-in-Or-2.new.self.items c.in_ok-k-in-Or.k (node.Or c.in-Some-pair-2.a c.in-Some-pair-2.b) c.in_ok-k-in-Or.ensures.nodes (low.1.0, low.0) c.in_ok-k-in-Or.ensures.number c.in_ok-push-in-Or.ensures.items low.1.1 in
    ap (λ (t : Term). after_term ws t (formulas_at old (reverse c.args.stack.now.items))) c.in-Or.is
    ∙ ap (λ (ks : List ℕ). after_term ws Or (formulas_at old ks)) c.in-Some-pair-2.ensures ∙ ap Some (sym values)
