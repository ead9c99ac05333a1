use Rattle.std.proofs.Common.{◌≡◌, ◌++◌, drop, map}
use Rattle.std.specs.Option.{option_map}
use Rattle.thin_tree.specs.Postfix.{expression_of}
use Rattle.thin_form.specs.Numbers.{rules_of}
use Rattle.thin_form.specs.Listed.{lists}
use Rattle.thin_form.proofs.rules.rules.Given as goal

abbrev pub invariant-loop-e : goal.invariant-loop-e
invariant-loop-e l = option_map (λ rs. map (λ r. r.items) l.out.items ++ rs) (rules_of (lists l.names) (map (λ e. expression_of e.of.now) (drop l.e-index l.read))) ≡ rules_of (lists l.names) (map (λ e. expression_of e.of.now) l.read)
