-- What is added, and behind it what is left, is all.
use Rattle.std.proofs.Common.{◌≡◌, ◌++◌, drop, map}
use Rattle.elab_binds.specs.Boxes.{box_signal}
use Rattle.elab_binds.proofs.box_wires.add_all.Given as goal

abbrev pub invariant-loop-port : goal.invariant-loop-port
invariant-loop-port l = l.signals.items ++ map (box_signal l.prefix l.place) (drop l.port-index l.ports) ≡ l.fn.signals.items ++ map (box_signal l.prefix l.place) l.ports
