-- The flops that were looked at have their cones.
use Rattle.cons_bind.specs.Names.{net_of}
use Rattle.reset_trees.proofs.PinLemmas.{PinsBelow}
use Rattle.reset_trees.proofs.pins.pin_cones.Given as goal

abbrev pub invariant-sources : goal.invariant-sources
invariant-sources g l = PinsBelow (net_of (g.V.View.gates l.view) (g.V.FlopNet.names l.view) (g.V.FlopNet.kinds l.view) (g.V.FlopNet.named_bits l.view)) l.flop l.pins
