-- The nodes so far.
use Rattle.std.proofs.Common.{◌≡◌, map, take}
use Rattle.net_exprs.specs.Names.{node_at}
use Rattle.net_exprs.proofs.wired.nodes_of.Given as goal

abbrev pub invariant-loop-number : goal.invariant-loop-number
invariant-loop-number l = l.word.items ≡ map (node_at l.nodes) (take l.number-index l.numbers)
