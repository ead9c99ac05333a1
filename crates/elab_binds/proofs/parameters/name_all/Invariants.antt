-- What is named, and behind it what is left, is all.
use Rattle.std.proofs.Common.{◌≡◌, ◌++◌, drop, map}
use Rattle.elab_binds.specs.ParameterNames.{name_of}
use Rattle.elab_binds.proofs.parameters.name_all.Given as goal

abbrev pub invariant-loop-binding : goal.invariant-loop-binding
invariant-loop-binding l = l.names ++ map name_of (drop l.binding-index l.bindings) ≡ l.fn.names ++ map name_of l.bindings
