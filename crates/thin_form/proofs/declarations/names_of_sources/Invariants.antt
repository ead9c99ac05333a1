use Rattle.std.proofs.Common.{◌≡◌, ◌++◌, drop}
use Rattle.thin_tree.specs.Written.{all_declared, texts}
use Rattle.thin_form.specs.Order.{no_wires}
use Rattle.thin_form.proofs.declarations.names_of_sources.Given as goal

abbrev pub invariant-loop-d : goal.invariant-loop-d
invariant-loop-d l = texts l.out.items ++ no_wires (all_declared (drop l.d-index l.declared)) ≡ no_wires (all_declared l.declared)
