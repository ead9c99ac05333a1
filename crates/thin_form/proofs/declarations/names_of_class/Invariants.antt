use Rattle.std.proofs.Common.{◌≡◌, ◌++◌, drop}
use Rattle.thin_tree.specs.Written.{all_declared, texts}
use Rattle.thin_form.specs.Order.{of_class}
use Rattle.thin_form.proofs.declarations.names_of_class.Given as goal

abbrev pub invariant-loop-d : goal.invariant-loop-d
invariant-loop-d l = texts l.out.items ++ of_class l.class (all_declared (drop l.d-index l.declared)) ≡ of_class l.class (all_declared l.declared)
