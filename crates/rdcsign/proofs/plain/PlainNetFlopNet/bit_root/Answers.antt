use Rattle.std.proofs.Common.{ap, sym}
use Rattle.net_view.specs.FlopNet.{Bit}
use Rattle.rdcsign.proofs.PlainLemmas.{bit_found}
use Rattle.rdcsign.proofs.plain.PlainNetFlopNet.bit_root.Goals as goal

pub returns : goal.returns
returns c = λ bit is. let x = bit_found c.args.self.now.design.now.bits c.args.b bit is in ap (λ (b : Bit). b.root) (sym x.2)
