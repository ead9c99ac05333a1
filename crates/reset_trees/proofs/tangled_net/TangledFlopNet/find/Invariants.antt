-- No bit before this one has the name.
use Rattle.std.proofs.Common.{◌≢◌, ℕ, ◌<◌}
use Rattle.net_view.specs.FlopNet.{Bit, IsBitAt}
use Rattle.reset_trees.specs.TangledNet.{tangled_bits}
use Rattle.reset_trees.proofs.tangled_net.TangledFlopNet.find.Given as goal

abbrev pub invariant-bits : goal.invariant-bits
invariant-bits l = (k : ℕ) (bit : Bit) → k < l.b → IsBitAt tangled_bits k bit → bit.name ≢ l.name
