-- What is made, and behind it what is left, is all.
use Rattle.std.proofs.Common.{◌≡◌, ◌++◌, drop, map}
use Rattle.elab_binds.specs.Bindings.{pin_of_box}
use Rattle.elab_binds.proofs.pins.pins_of_box.Given as goal

abbrev pub invariant-loop-port : goal.invariant-loop-port
invariant-loop-port l = l.pins.items ++ map pin_of_box (drop l.port-index l.ports) ≡ map pin_of_box l.ports
