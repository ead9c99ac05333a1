use Rattle.std.proofs.Common.{◌≡◌, ℕ, ◌+◌, ◌<◌, ◌≤◌, [], drop, length, get_or, sum_by}
use Rattle.thin_form.specs.Values.{IsGrown, IsMade, rules_at}
use Rattle.thin_form.proofs.wiring.values.Given as goal

abbrev pub invariant-loop-rule : goal.invariant-loop-rule
invariant-loop-rule l = record {
  grown : IsGrown l.fn.nodes.items l.nodes.items;
  few : length l.nodes.items + sum_by (λ ts. length ts) (rules_at (drop l.rule-index l.rules)) ≤ length l.fn.nodes.items + sum_by (λ ts. length ts) (rules_at l.rules);
  count : length l.out.items ≡ l.rule-index;
  made : (j : ℕ) → j < l.rule-index → IsMade l.nodes.items l.wires (get_or (rules_at l.rules) j []) (get_or l.out.items j 0);
}
