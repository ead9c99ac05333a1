-- What is named, and behind it what is left, is all.
use Rattle.std.proofs.Common.{◌≡◌, ◌++◌, drop, map}
use Rattle.elab_binds.specs.ParameterNames.{name_of_parameter}
use Rattle.elab_binds.proofs.parameters.name_head.Given as goal

abbrev pub invariant-loop-one : goal.invariant-loop-one
invariant-loop-one l = l.names ++ map name_of_parameter (drop l.one-index l.head) ≡ l.fn.names ++ map name_of_parameter l.head
