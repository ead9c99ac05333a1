-- The stages give the file, the roles and the flops, or leave no declaration.
use Rattle.std.proofs.Common.{map, sym, subst}
use Rattle.std.proofs.lemmas.Result.{err_from_is_err_and}
use Rattle.thin_form.specs.Netlist.{design_of}
use Rattle.thin_cons.specs.Forms.{declaration_of}
use Rattle.thin_cons.specs.Roles.{AreMet}
use Rattle.thin_cons.proofs.Declared.{same_fault, unless_roles, unless_met}
use Rattle.thin_cons.proofs.declarer.declare.Goals as goal

pub returns-in_err-roles-clause-not_of_form : goal.returns-in_err-roles-clause-not_of_form
returns-in_err-roles-clause-not_of_form c =
    let p = err_from_is_err_and c.from_residual-in_err-roles.result c.from_residual-in_err-roles.ensures.1 in
    rw (p.1, p.2)
    (λ e. unless_roles (design_of c.args.design.now) c.args.bytes.now (map declaration_of c.in_ok-lines.lines.items) c.in_ok-lines.ensures.ok (rw c.deref.ensures.value at (c.in_err-roles.ensures.not_of_form (same_fault _ _ e))))

pub returns-then-not-branch-clause-not_of_form : goal.returns-then-not-branch-clause-not_of_form
returns-then-not-branch-clause-not_of_form c =
    let roles = rw c.deref.ensures.value at c.in_ok-roles.ensures.ok in
    let unmet : AreMet (design_of c.args.design.now) c.in_ok-roles.roles.items → ⊥ = λ met. let answered_yes = c.in_ok-are_met.ensures.1 (subst (AreMet (design_of c.args.design.now)) (sym c.deref-2.ensures.value) met) in let answered_no = c.if-not-branch.true in absurd cc in
    λ _. unless_met (design_of c.args.design.now) c.args.bytes.now (map declaration_of c.in_ok-lines.lines.items) c.in_ok-roles.roles.items c.in_ok-lines.ensures.ok roles unmet

pub returns-clause-ok : goal.returns-clause-ok
returns-clause-ok c =
    let roles = rw c.deref.ensures.value at c.in_ok-roles.ensures.ok in
    let met = c.in_ok-are_met.ensures.0 c.if-not-branch.false in
    rw c.new.ensures record { declarations = map declaration_of c.in_ok-lines.lines.items; file = c.in_ok-lines.ensures.ok; roles = roles; met = subst (AreMet (design_of c.args.design.now)) c.deref-2.ensures.value met }
