use Rattle.std.proofs.Common.{subst}
use Rattle.thin_form.specs.Netlist.{FindsBit}
use Rattle.rdcsign.proofs.PlainLemmas.{finds_bit}
use Rattle.rdcsign.proofs.plain.PlainNetFlopNet.find.Goals as goal

pub returns : goal.returns
returns c =
    finds_bit c.args.self.now.design.now c.args.name.now c.find.result c.sources-sources.ensures.lawful
    (subst (λ name. FindsBit c.args.self.now.design.now name c.find.result) c.as_bytes.ensures.value c.find.ensures)
