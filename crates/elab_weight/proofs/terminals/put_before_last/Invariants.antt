-- What is left of the terminals decides what all give.
use Rattle.std.proofs.Common.{◌≡◌, ◌++◌, length}
use Rattle.design_sizes.specs.Lists.{all_sized}
use Rattle.elab_weight.specs.GateParts.{before_last}
use Rattle.elab_weight.proofs.terminals.put_before_last.Given as goal

abbrev pub invariant-loop-rest : goal.invariant-loop-rest
invariant-loop-rest l = all_sized l.out.items ++ before_last l.design l.rest ≡ all_sized l.fn.out.items ++ before_last l.design l.fn.es

abbrev pub decreases-loop-rest : goal.decreases-loop-rest
decreases-loop-rest l = length l.rest
