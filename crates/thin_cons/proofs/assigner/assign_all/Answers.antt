-- Each line adds its declaration, or leaves no roles.
use Rattle.std.proofs.Common.{◌≡◌, [], ◌+◌, map, take, drop, replicate, length, get_or, sym, ap, ◌∙◌}
use Rattle.std.proofs.lemmas.List.{map_more}
use Rattle.thin_form.specs.Netlist.{design_of}
use Rattle.thin_form.proofs.DesignOf.{length-design_of}
use Rattle.thin_cons.proofs.NetLemmas.{ascending_names}
use Rattle.thin_cons.specs.Forms.{declaration_of}
use Rattle.thin_cons.specs.declared.line.Line.{Line}
use Rattle.thin_cons.specs.declared.line.Line.TheVariants.{Clock}
use Rattle.thin_cons.specs.declared.role.Role.TheVariants.{Free}
use Rattle.thin_cons.proofs.RolesLemmas.{no_roles, roles_push, no_roles_past, map_parts}
use Rattle.thin_cons.proofs.assigner.assign_all.Goals as goal

nothing : Line
nothing = Clock (record { ref_ptr = (0, 0); now = [] })

pub loop-line-init : goal.loop-line-init
loop-line-init c =
    let items : c.in_ok-roles.roles.items ≡ replicate (length (design_of c.args.design.now).sources) Free = c.in_ok-roles.ensures.items_if_clones_equal (λ y e. e) ∙ ap (λ n. replicate n Free) (c.sources.ensures.value ∙ sym (length-design_of c.args.design.now)) in
    rw items (no_roles (design_of c.args.design.now))

pub loop-line-preserved : goal.loop-line-preserved
unfolding nothing
loop-line-preserved c =
    let port = rw (c.deref.ensures.value, c.said-role.ensures.port) at c.in-Some.ensures.some in
    rw (map_more declaration_of c.args.lines.now c.loop-line.line-index nothing c.loop-line-test.true, c.said-role.ensures.role)
    (roles_push (design_of c.args.design.now) _ c.loop-line.roles.items _ c.in-Some.n (ascending_names c.args.design.now c.sources.ensures.lawful) c.loop-line.invariant port)

pub returns-in_default-clause-not_of_form : goal.returns-in_default-clause-not_of_form
unfolding nothing
returns-in_default-clause-not_of_form c =
    rw (map_parts declaration_of c.args.lines.now c.loop-line.line-index nothing c.loop-line-test.true)
    (λ _. no_roles_past (design_of c.args.design.now) (map declaration_of (take c.loop-line.line-index c.args.lines.now)) c.loop-line.roles.items (declaration_of (get_or c.args.lines.now c.loop-line.line-index nothing)) (map declaration_of (drop (c.loop-line.line-index + 1) c.args.lines.now)) c.loop-line.invariant
    (λ n port. c.in_default.ensures.none n (rw (c.deref.ensures.value, c.said-role.ensures.port) port)))
