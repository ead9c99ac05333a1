-- What is made, and behind it what is left, is all.
use Rattle.std.proofs.Common.{◌≡◌, ◌++◌, drop, map}
use Rattle.elab_tree.specs.Tops.{port_of}
use Rattle.elab_tree.proofs.top.ports_of.Given as goal

abbrev pub invariant-loop-pin : goal.invariant-loop-pin
invariant-loop-pin l = l.ports.items ++ map port_of (drop l.pin-index l.pins) ≡ map port_of l.pins
