use Rattle.std.proofs.Common.{ap, sym, ◌∙◌, arith}
use Rattle.net_view.specs.declared.flop_net.SrcKind.TheVariants as connections
use Rattle.thin_form.specs.declared.kind.Kind.{Kind}
use Rattle.rdcsign.specs.PlainNet.{kind_in_net}
use Rattle.rdcsign.proofs.PlainLemmas.{kind_is, some_kind}
use Rattle.rdcsign.proofs.plain.PlainNetFlopNet.kind.Goals as goal

pub bit_of-requires : goal.bit_of-requires
bit_of-requires c = (c.sources-sources.ensures.lawful.flops c.args.s.0 c.in-Register.flop (sym c.kind.ensures ∙ c.in-Register.is)).pin

pub returns-in-Input : goal.returns-in-Input
returns-in-Input c = kind_is c.args.self.now.design.now c.args.s.0 c.requires ∙ ap (λ (k : Kind). some_kind (kind_in_net c.args.self.now.design.now k)) (sym c.kind.ensures ∙ c.in-Input.is)

pub returns-in-Register : goal.returns-in-Register
returns-in-Register c = rw c.bit_of.ensures (kind_is c.args.self.now.design.now c.args.s.0 c.requires ∙ ap (λ (k : Kind). some_kind (kind_in_net c.args.self.now.design.now k)) (sym c.kind.ensures ∙ c.in-Register.is))
