use Rattle.std.proofs.Common.{◌≡◌, List, IfOk, subst}
use Rattle.rdc_tern.specs.declared.value.Tern.{Tern}
use Rattle.design_form.specs.Extents.{shape_of}
use Rattle.proc_values.proofs.ContextLemmas.{own_word, same_sign}
use Rattle.proc_values.proofs.contexts.word_in.Goals as goal

pub returns-then-own-context : goal.returns-then-own-context
returns-then-own-context c =
    subst (λ (z : List Tern). IfOk c.eval_within.result (λ w. w.items ≡ z))
    (own_word c.args.design.now c.args.state.now (shape_of c.args.context) (shape_of c.in_ok-own.own) c.args.e.now c.in_ok-own.ensures c.requires.covers (same_sign c.in_ok-own.own.signed c.args.context.signed c.if-own-context.true))
    c.eval_within.ensures
