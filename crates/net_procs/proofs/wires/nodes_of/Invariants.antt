-- The nodes so far.
use Rattle.std.proofs.Common.{◌≡◌, map, take}
use Rattle.net_exprs.specs.Names.{node_at}
use Rattle.net_procs.proofs.wires.nodes_of.Given as goal

abbrev pub invariant-loop-bit : goal.invariant-loop-bit
invariant-loop-bit l = l.word.items ≡ map (node_at l.nodes) (take l.bit-index l.bits)
