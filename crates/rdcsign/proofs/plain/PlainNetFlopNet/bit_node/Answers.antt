use Rattle.std.proofs.Common.{ap, sym, ◌∙◌, arith}
use Rattle.net_view.specs.FlopNet.{Bit}
use Rattle.thin_form.specs.Netlist.{NetBit}
use Rattle.thin_form.specs.Kept.{a_bit}
use Rattle.rdcsign.proofs.PlainLemmas.{bit_found, bits_len, one_bit_there}
use Rattle.rdcsign.proofs.plain.PlainNetFlopNet.bit_node.Goals as goal

pub bit-requires : goal.bit-requires
bit-requires c = omega (arith, c.requires, bits_len 0 c.args.self.now.design.now.bits)

pub returns : goal.returns
returns c = λ bit is.
    let x = bit_found c.args.self.now.design.now.bits c.args.b bit is in
    ap (λ (b : NetBit). b.node) (one_bit_there c.args.self.now.design.now.bits c.args.b (a_bit c.bit.result) x.0 c.bit.ensures x.1) ∙ ap (λ (b : Bit). b.node) (sym x.2)
