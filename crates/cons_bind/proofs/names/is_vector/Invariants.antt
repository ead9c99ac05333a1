-- No bit before this one is of the vector.
use Rattle.std.proofs.Common.{ℕ, ◌<◌}
use Rattle.cons_bind.specs.Names.{net_of, IsBitOf}
use Rattle.cons_bind.proofs.names.is_vector.Given as goal

abbrev pub invariant-bits : goal.invariant-bits
invariant-bits g l =
    (k : ℕ) → k < l.b → IsBitOf (net_of (g.V.View.gates l.view) (g.V.FlopNet.names l.view) (g.V.FlopNet.kinds l.view) (g.V.FlopNet.named_bits l.view)) l.vector k → ⊥
