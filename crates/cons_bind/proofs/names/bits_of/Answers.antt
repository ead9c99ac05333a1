-- A bit is listed where it is of the vector.
use Rattle.std.proofs.Common.{◌+◌, length, ℕ, subst, sym, arith, Vec, Global}
use Rattle.cons_bind.specs.Names.{net_of, IsBitOf}
use Rattle.cons_bind.proofs.NamesLemmas.{bit_of_within}
use Rattle.cons_bind.proofs.AscendingLemmas.{ListsBelow, lists_push, lists_skip, lists_all, lists_within}
use Rattle.cons_bind.proofs.names.bits_of.Goals as goal
use Rattle.cons_bind.proofs.names.bits_of.Goals.{then-is_bit_of+in_ok-push, else-is_bit_of}

pub bits-preserved : goal.bits-preserved
bits-preserved g c =
    let net = net_of (g.V.View.gates c.args.view.now) (g.V.FlopNet.names c.args.view.now) (g.V.FlopNet.kinds c.args.view.now) (g.V.FlopNet.named_bits c.args.view.now) in
    let Done : Vec ℕ Global → Type 0 = λ bits. ListsBelow (IsBitOf net c.args.vector.now) (c.bits.b + 1) bits.items in
    elim c.if-is_bit_of.branch [
      | then-is_bit_of+in_ok-push w ↦ subst Done (sym w.bits-is) (rw w.in_ok-push.ensures.items (lists_push (IsBitOf net c.args.vector.now) c.bits.b c.bits.bits.items c.bits.invariant w.if-is_bit_of.ensures))
      | else-is_bit_of w ↦ subst Done (sym w.bits-is) (lists_skip (IsBitOf net c.args.vector.now) c.bits.b c.bits.bits.items c.bits.invariant w.if-is_bit_of.ensures)
    ]

pub returns-clause-bits : goal.returns-clause-bits
returns-clause-bits g c =
    let net = net_of (g.V.View.gates c.args.view.now) (g.V.FlopNet.names c.args.view.now) (g.V.FlopNet.kinds c.args.view.now) (g.V.FlopNet.named_bits c.args.view.now) in
    lists_all (IsBitOf net c.args.vector.now) c.bits.b c.bits.bits.items c.bits.invariant (λ k is. omega (arith, bit_of_within net c.args.vector.now k is))

pub returns-clause-within : goal.returns-clause-within
returns-clause-within g c =
    let net = net_of (g.V.View.gates c.args.view.now) (g.V.FlopNet.names c.args.view.now) (g.V.FlopNet.kinds c.args.view.now) (g.V.FlopNet.named_bits c.args.view.now) in
    λ k d lt. lists_within (IsBitOf net c.args.vector.now) c.bits.b (length net.bits) c.bits.bits.items c.bits.invariant (omega arith) k d lt
