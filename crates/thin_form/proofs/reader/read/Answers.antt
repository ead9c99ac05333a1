use Rattle.std.proofs.Common.{sym, subst, ◌∙◌}
use Rattle.thin_tree.specs.Written.{a_module}
use Rattle.thin_form.specs.Rules.{IsOfForm}
use Rattle.thin_form.proofs.OneDesign.{same_tree}
use Rattle.thin_form.proofs.reader.read.Goals as goal

pub returns-clause-not_of_form : goal.returns-clause-not_of_form
returns-clause-not_of_form c = λ fault d says.
    let same = same_tree says.tree (a_module c.in-Ok.found) (sym says.said ∙ c.in-Ok.ensures.tree) in
    c.build.ensures.not_of_form fault (subst IsOfForm same says.is_of_form)
