use Rattle.std.proofs.Common.{◌≡◌, List, IfOk, subst, ap, ◌∙◌}
use Rattle.vlog_tree.specs.declared.expr.Expr.{Expr}
use Rattle.rdc_tern.specs.declared.value.Tern.{Tern}
use Rattle.design_form.specs.Extents.{shape_of}
use Rattle.design_form.specs.State.{seen_in}
use Rattle.design_form.specs.Values.{word_within}
use Rattle.proc_values.specs.Covers.{nowhere}
use Rattle.proc_values.proofs.ContextLemmas.{or_word}
use Rattle.proc_values.proofs.contexts.unsigned_word.Goals as goal

pub returns : goal.returns
returns c =
    let names = seen_in c.args.design.now c.args.state.now in
    subst (λ (z : List Tern). IfOk c.eval_within.result (λ w. w.items ≡ z))
    (ap (λ (x : Expr). word_within names c.args.context.width x) c.in_ok-both.ensures
    ∙ or_word c.args.design.now c.args.state.now (shape_of c.args.context) nowhere c.args.e.now c.requires.covers c.requires.sign)
    c.eval_within.ensures
