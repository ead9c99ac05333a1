use Rattle.std.proofs.Common.{◌≡◌, take, map}
use Rattle.thin_form.specs.Values.{wires_in, rules_at}
use Rattle.thin_form.proofs.wiring.reads.Given as goal

abbrev pub invariant-loop-rule : goal.invariant-loop-rule
invariant-loop-rule l = map (λ r. r.items) l.out.items ≡ map wires_in (rules_at (take l.rule-index l.rules))
