-- A source's origin is that of its role and kind.
use Rattle.std.proofs.Common.{◌≡◌, sym, ap, subst, ◌∙◌}
use Rattle.thin_form.specs.Design.{kind_at}
use Rattle.thin_form.specs.Netlist.{formulas, formula_of, kind_of, design_of}
use Rattle.thin_form.proofs.DesignOf.{kind_at-design_of}
use Rattle.thin_cons.specs.Roles.{role_at}
use Rattle.rdcsign.specs.Origin.{origin_of_source, origin_of}
use Rattle.rdcsign.proofs.origin.of_node.Goals as goal

pub returns-in-Source : goal.returns-in-Source
returns-in-Source c = λ before are.
    let net = c.args.design.now in
    let n = c.in-Source.n in
    let made = c.of_source.ensures (formulas net.nodes) in
    let there : origin_of_source c.role.result (kind_of (formulas net.nodes) c.kind.result) ≡ origin_of_source (role_at c.args.roles.now n) (kind_at (design_of net) n) =
    ap (λ r. origin_of_source r (kind_of (formulas net.nodes) c.kind.result)) c.role.ensures ∙ ap (origin_of_source (role_at c.args.roles.now n)) (ap (kind_of (formulas net.nodes)) c.kind.ensures ∙ sym (kind_at-design_of net n)) in
    subst (λ x. c.of_source.result ≡ origin_of (design_of net) c.args.roles.now (formula_of before x)) (sym c.in-Source.is) (made ∙ there)
