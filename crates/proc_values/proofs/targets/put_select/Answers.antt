use Rattle.std.proofs.Common.{ap, sym, ◌∙◌}
use Rattle.vlog_const.specs.declared.shape.Shape.{Shape}
use Rattle.proc_values.proofs.ShapeLemmas.{alone_width}
use Rattle.proc_values.proofs.targets.put_select.Goals as goal

pub hits-requires-clause-width : goal.hits-requires-clause-width
hits-requires-clause-width c =
    rw (c.as_slice.ensures.value, c.in_ok-at-in-None.ensures)
    (alone_width c.args.design.now c.args.now.now c.args.index.now ∙ ap (λ (s : Shape). s.width) (sym c.in_ok-extent-in-None.ensures))
