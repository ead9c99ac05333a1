use Rattle.std.proofs.Common.{refl, sym, ap, ◌∙◌, subst}
use Rattle.rdc_tern.specs.Kleene.{IsBelow}
use Rattle.run_model.specs.Up.{lifted, up_value}
use Rattle.run_model.specs.Netlist.{net_of}
use Rattle.run_model.proofs.Steps.{lifted-above}
use Rattle.run_model.proofs.pass.up_of.Goals as goal

pub returns-in-Some-clause-value : goal.returns-in-Some-clause-value
returns-in-Some-clause-value g c = λ s valued.
    let net = net_of (g.V.View.gates c.args.view.now) (g.V.FlopNet.names c.args.view.now) (g.V.FlopNet.kinds c.args.view.now) (g.V.FlopNet.named_bits c.args.view.now) in
    let phase_is = c.phase.ensures net (g.V.View.source_number c.args.source) s refl valued in
    c.raised.ensures ∙ ap (λ p. lifted c.in-Some.flop.reset p c.args.value) phase_is ∙ sym (ap (λ x. up_value x s c.args.value) c.in-Some.ensures.value)

pub returns-in-Some-clause-raised : goal.returns-in-Some-clause-raised
returns-in-Some-clause-raised g c =
    subst (λ v. IsBelow c.args.value v) (sym c.raised.ensures) (lifted-above c.in-Some.flop.reset c.phase.result c.args.value)
