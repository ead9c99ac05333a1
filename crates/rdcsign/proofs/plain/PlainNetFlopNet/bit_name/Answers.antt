use Rattle.std.proofs.Common.{ap, sym, ◌∙◌, arith}
use Rattle.net_view.specs.FlopNet.{Bit}
use Rattle.thin_form.specs.Netlist.{NetBit}
use Rattle.thin_form.specs.Kept.{a_bit}
use Rattle.rdcsign.proofs.PlainLemmas.{bit_found, bits_len, bit_text, one_bit_there}
use Rattle.rdcsign.proofs.plain.PlainNetFlopNet.bit_name.Goals as goal

pub bit-requires : goal.bit-requires
bit-requires c = omega (arith, c.requires, bits_len 0 c.args.self.now.design.now.bits)

pub text-requires : goal.text-requires
text-requires c = bit_text c.args.self.now.design.now c.args.b (a_bit c.bit.result) c.sources-sources.ensures.lawful c.bit.ensures

pub returns : goal.returns
returns c = λ bit is.
    let x = bit_found c.args.self.now.design.now.bits c.args.b bit is in
    c.text.ensures ∙ ap (λ (b : NetBit). b.name) (one_bit_there c.args.self.now.design.now.bits c.args.b (a_bit c.bit.result) x.0 c.bit.ensures x.1) ∙ ap (λ (b : Bit). b.name) (sym x.2)
