use Rattle.std.proofs.Common.{◌≡◌, ◌++◌, drop}
use Rattle.thin_tree.specs.Form.{input_names}
use Rattle.thin_tree.specs.Written.{texts}
use Rattle.thin_tree.proofs.names.input_names.Given as goal

abbrev pub invariant-loop-port : goal.invariant-loop-port
invariant-loop-port l = texts l.names.items ++ input_names (drop l.port-index l.ports) ≡ input_names l.ports
