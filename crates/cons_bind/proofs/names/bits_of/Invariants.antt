-- The bits of the vector before this one are listed.
use Rattle.cons_bind.specs.Names.{net_of, IsBitOf}
use Rattle.cons_bind.proofs.AscendingLemmas.{ListsBelow}
use Rattle.cons_bind.proofs.names.bits_of.Given as goal

abbrev pub invariant-bits : goal.invariant-bits
invariant-bits g l =
    ListsBelow (IsBitOf (net_of (g.V.View.gates l.view) (g.V.FlopNet.names l.view) (g.V.FlopNet.kinds l.view) (g.V.FlopNet.named_bits l.view)) l.vector) l.b l.bits.items
