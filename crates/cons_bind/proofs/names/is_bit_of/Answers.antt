-- A bit is of the vector where its name is.
use Rattle.cons_bind.specs.Names.{net_of}
use Rattle.cons_bind.proofs.NamesLemmas.{bit_indexed}
use Rattle.cons_bind.proofs.names.is_bit_of.Goals as goal

pub returns : goal.returns
returns g c =
    let net = net_of (g.V.View.gates c.args.view.now) (g.V.FlopNet.names c.args.view.now) (g.V.FlopNet.kinds c.args.view.now) (g.V.FlopNet.named_bits c.args.view.now) in
    let indexed = rw (c.as_bytes.ensures.value, c.as_bytes-2.ensures.value) at c.is_indexed.ensures in
    bit_indexed net c.args.vector.now c.bit_name.result.now c.args.b c.is_indexed.result c.requires c.bit_name.ensures indexed
