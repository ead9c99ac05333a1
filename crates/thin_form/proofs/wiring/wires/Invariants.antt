use Rattle.std.proofs.Common.{◌+◌, ◌≤◌, [], drop, length, get_or, sum_by}
use Rattle.thin_form.specs.Values.{IsGrown, rules_at}
use Rattle.thin_form.proofs.Wired.{IsWiring}
use Rattle.thin_form.proofs.wiring.wires.Given as goal

abbrev pub invariant-loop-w : goal.invariant-loop-w
invariant-loop-w l = record {
  wiring : IsWiring l.nodes.items l.wires.items (rules_at l.rules) (drop l.w-index l.order);
  grown : IsGrown l.fn.nodes.items l.nodes.items;
  few : length l.nodes.items + sum_by (λ w. length (get_or (rules_at l.rules) w [])) (drop l.w-index l.order) ≤ length l.fn.nodes.items + sum_by (λ ts. length ts) (rules_at l.rules);
}
