-- A name is one source's, so no other source serves.
use Rattle.std.proofs.Common.{◌≡◌, ◌<◌, length, sym, ◌∙◌, subst, arith}
use Rattle.thin_form.specs.Netlist.{design_of, kind_at}
use Rattle.thin_form.specs.declared.kind.Kind.TheVariants.{Input}
use Rattle.thin_form.proofs.DesignOf.{name_at-design_of, length-design_of}
use Rattle.thin_cons.specs.Roles.{role_at}
use Rattle.thin_cons.specs.declared.role.Role.TheVariants.{Free}
use Rattle.thin_cons.proofs.RolesLemmas.{one_place}
use Rattle.thin_cons.proofs.NetLemmas.{free_from, free_kind, ascending_names}
use Rattle.thin_cons.proofs.assigner.free_input.Goals as goal

pub returns-then-is_free_input-clause-some : goal.returns-then-is_free_input-clause-some
returns-then-is_free_input-clause-some c =
    let free = c.is_free_input.ensures.0 c.if-is_free_input.true in
    free_from c.args.design.now c.args.roles.now c.args.port.now c.in-Some.n c.in-Some.ensures.0 c.in-Some.ensures.1 free.0 free.1

pub returns-else-is_free_input-clause-none : goal.returns-else-is_free_input-clause-none
returns-else-is_free_input-clause-none c = λ m port.
    let net = c.args.design.now in
    let within : c.in-Some.n < length (design_of net).sources = omega (arith, c.in-Some.ensures.0, length-design_of net) in
    let same = one_place (design_of net) m c.in-Some.n (ascending_names net c.requires.lawful) port.within within (port.name ∙ sym (name_at-design_of net c.in-Some.n ∙ c.in-Some.ensures.1)) in
    let input : kind_at net c.in-Some.n ≡ Input = subst (λ k. kind_at net k ≡ Input) same (free_kind net m port.input) in
    let free : role_at c.args.roles.now c.in-Some.n ≡ Free = subst (λ k. role_at c.args.roles.now k ≡ Free) same port.free in
    let answered_yes = c.is_free_input.ensures.1 (input, free) in
    let answered_no = c.if-is_free_input.false in
    absurd cc

pub returns-in_default-clause-none : goal.returns-in_default-clause-none
returns-in_default-clause-none c = λ n port.
    c.in_default.ensures n (omega (arith, port.within, length-design_of c.args.design.now)) (sym (name_at-design_of c.args.design.now n) ∙ port.name)
