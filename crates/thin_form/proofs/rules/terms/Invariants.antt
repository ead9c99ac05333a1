use Rattle.std.proofs.Common.{◌≡◌, ◌++◌, drop, map}
use Rattle.std.specs.Option.{option_map}
use Rattle.thin_tree.specs.Postfix.{step_of}
use Rattle.thin_form.specs.Numbers.{terms_of}
use Rattle.thin_form.specs.Listed.{lists}
use Rattle.thin_form.proofs.rules.terms.Given as goal

abbrev pub invariant-loop-step : goal.invariant-loop-step
invariant-loop-step l = option_map (λ ts. l.out.items ++ ts) (terms_of (lists l.names) (map step_of (drop l.step-index l.steps))) ≡ terms_of (lists l.names) (map step_of l.steps)
