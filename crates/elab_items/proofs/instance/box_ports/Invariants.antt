-- What is made, and behind it what is left, is all.
use Rattle.std.proofs.Common.{◌≡◌, ◌++◌, drop, map}
use Rattle.elab_items.specs.Instances.{box_port}
use Rattle.elab_items.proofs.instance.box_ports.Given as goal

abbrev pub invariant-loop-shape : goal.invariant-loop-shape
invariant-loop-shape l = l.ports.items ++ map box_port (drop l.shape-index l.shapes) ≡ map box_port l.shapes
