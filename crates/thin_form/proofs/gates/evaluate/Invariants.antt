use Rattle.std.proofs.Common.{◌≡◌, ◌+◌, ◌<◌, ◌≤◌, [], drop, length, reverse}
use Rattle.std.specs.List.{AllByRecursion}
use Rattle.thin_form.specs.Values.{after_terms, formulas_at, IsGrown}
use Rattle.thin_form.proofs.gates.evaluate.Given as goal

abbrev pub invariant-loop-term : goal.invariant-loop-term
invariant-loop-term l = record {
  grown : IsGrown l.fn.nodes.items l.nodes.items;
  few : length l.nodes.items ≤ length l.fn.nodes.items + l.term-index;
  stack : AllByRecursion (λ k. k < length l.nodes.items) (reverse l.stack.items);
  value : after_terms (formulas_at l.fn.nodes.items l.wires) (drop l.term-index l.terms) (formulas_at l.nodes.items (reverse l.stack.items)) ≡ after_terms (formulas_at l.fn.nodes.items l.wires) l.terms [];
}
