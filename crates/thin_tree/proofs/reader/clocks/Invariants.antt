use Rattle.std.proofs.Common.{◌≡◌, take, map}
use Rattle.thin_tree.specs.Written.{texts, a_process}
use Rattle.thin_tree.proofs.reader.clocks.Given as goal

abbrev pub invariant-loop-p : goal.invariant-loop-p
invariant-loop-p l = texts l.names.items ≡ map (λ p. p.clock) (map a_process (take l.p-index l.processes))
