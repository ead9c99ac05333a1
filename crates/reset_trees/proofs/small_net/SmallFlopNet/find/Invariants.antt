-- No bit before this one has the name.
use Rattle.std.proofs.Common.{◌≢◌, ℕ, ◌<◌}
use Rattle.net_view.specs.FlopNet.{Bit, IsBitAt}
use Rattle.cons_bind.specs.SmallNet.{small_bits}
use Rattle.reset_trees.proofs.small_net.SmallFlopNet.find.Given as goal

abbrev pub invariant-bits : goal.invariant-bits
invariant-bits l = (k : ℕ) (bit : Bit) → k < l.b → IsBitAt small_bits k bit → bit.name ≢ l.name
