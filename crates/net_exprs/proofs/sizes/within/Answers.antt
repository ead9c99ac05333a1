use Rattle.std.proofs.Common.{◌∙◌, ap}
use Rattle.vlog_const.specs.declared.shape.Shape.{Shape}
use Rattle.vlog_const.specs.Widths.{unary_context}
use Rattle.design_form.specs.Extents.{shape_of}
use Rattle.net_exprs.proofs.ShapeLemmas.{shape_in_design}
use Rattle.net_exprs.proofs.sizes.within.Goals as goal

pub returns-in-Ok-clause-shape : goal.returns-in-Ok-clause-shape
returns-in-Ok-clause-shape c nodes =
    c.in-Ok.ensures ∙ ap (λ (s : Shape). unary_context c.args.op s (shape_of c.args.context)) (shape_in_design c.args.design.now nodes c.args.inner.now)
