-- No bit is past the last.
use Rattle.std.proofs.Common.{arith, below_more}
use Rattle.cons_bind.specs.Names.{net_of}
use Rattle.cons_bind.proofs.NamesLemmas.{bit_of_within}
use Rattle.cons_bind.proofs.names.is_vector.Goals as goal

pub returns : goal.returns
returns g c = λ b is.
    let net = net_of (g.V.View.gates c.args.view.now) (g.V.FlopNet.names c.args.view.now) (g.V.FlopNet.kinds c.args.view.now) (g.V.FlopNet.named_bits c.args.view.now) in
    c.bits.invariant b (omega (arith, bit_of_within net c.args.vector.now b is)) is

pub bits-preserved : goal.bits-preserved
bits-preserved g c = below_more _ _ c.bits.invariant c.if-is_bit_of.ensures
