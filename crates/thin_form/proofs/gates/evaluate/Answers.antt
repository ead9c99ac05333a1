use Rattle.std.proofs.Common.{◌≡◌, ◌∷◌, [], ℕ, List, Some, length, reverse, refl, ap, ◌∙◌, arith}
use Rattle.thin_form.specs.Values.{last_of, formulas_at}
use Rattle.thin_form.specs.declared.term.Term.TheVariants.{Source}
use Rattle.thin_form.proofs.Ways.{end_first}
use Rattle.thin_form.proofs.Formulas.{grown_further}
use Rattle.thin_form.proofs.Applied.{readable_grown, readable_at, term_more, term_lacks, terms_ended}
use Rattle.thin_form.proofs.gates.evaluate.Goals as goal

empty : (xs : List ℕ) → length xs ≡ 0 → xs ≡ []
empty [] e = refl
empty (x ∷ xs) e = absurd (omega arith)

pub apply-requires-clause-readable : goal.apply-requires-clause-readable
apply-requires-clause-readable c =
    readable_at c.loop-term.nodes.items c.args.wires.now c.args.terms.now c.loop-term.term-index (Source 0) c.loop-term-test.true
    (readable_grown c.args.nodes.now.items c.loop-term.nodes.items c.args.wires.now c.args.terms.now c.loop-term.invariant.grown c.requires.readable)

pub returns-then-not-branch-clause-not_of_form : goal.returns-then-not-branch-clause-not_of_form
returns-then-not-branch-clause-not_of_form c = λ _.
    ap last_of (term_lacks c.args.nodes.now.items c.loop-term.nodes.items c.args.wires.now c.args.terms.now c.loop-term.term-index (Source 0) (formulas_at c.loop-term.nodes.items (reverse c.loop-term.stack.items)) _
    c.loop-term-test.true c.loop-term.invariant.grown c.requires.readable c.loop-term.invariant.value (c.in_ok-apply.ensures.lacking c.if-not-branch.true))

pub loop-term-preserved : goal.loop-term-preserved
loop-term-preserved c =
    let old = c.args.nodes.now.items in
    let now = c.loop-term.nodes.items in
    let grown = c.loop-term.invariant.grown in
    record {
      grown = grown_further old now c.apply.new.nodes.items grown c.in_ok-apply.ensures.grown;
      few = omega (arith, c.in_ok-apply.ensures.few, c.loop-term.invariant.few);
      stack = c.in_ok-apply.ensures.stack c.if-not-branch.false;
      value = term_more old now c.args.wires.now c.args.terms.now c.loop-term.term-index (Source 0) (formulas_at now (reverse c.loop-term.stack.items)) _ c.loop-term-test.true grown c.requires.readable c.loop-term.invariant.value
          (formulas_at c.apply.new.nodes.items (reverse c.apply.new.stack.items)) (c.in_ok-apply.ensures.value c.if-not-branch.false);
    }

pub returns-in-Some-clause-value : goal.returns-in-Some-clause-value
returns-in-Some-clause-value c =
    let ended = terms_ended (formulas_at c.args.nodes.now.items c.args.wires.now) c.args.terms.now c.loop-term.term-index (formulas_at c.loop-term.nodes.items (reverse c.loop-term.stack.items)) _ c.loop-term-test.false c.loop-term.invariant.value in
    ap last_of (ended ∙ ap (λ (ks : List ℕ). Some (formulas_at c.loop-term.nodes.items ks)) (end_first c.pop.new.self.items c.loop-term.stack.items c.in-Some.k c.in-Some.ensures.items))

pub returns-clause-not_of_form : goal.returns-clause-not_of_form
returns-clause-not_of_form c = λ _.
    let ended = terms_ended (formulas_at c.args.nodes.now.items c.args.wires.now) c.args.terms.now c.loop-term.term-index (formulas_at c.loop-term.nodes.items (reverse c.loop-term.stack.items)) _ c.loop-term-test.false c.loop-term.invariant.value in
    let none : length c.loop-term.stack.items ≡ 0 = omega (arith, c.in-None.ensures.cases.0) in
    let free = empty c.loop-term.stack.items none in
    ap last_of (ended ∙ ap (λ (ks : List ℕ). Some (formulas_at c.loop-term.nodes.items (reverse ks))) free)
