use Rattle.std.proofs.Common.{◌∙◌, ap, ℕ, List, [], ◌≡◌}
use Rattle.vlog_tree.specs.declared.expr.Expr.{Expr}
use Rattle.vlog_const.specs.declared.shape.Shape.{Shape}
use Rattle.vlog_const.specs.Widths.{left_context, right_context}
use Rattle.design_form.specs.declared.parts.Parts.{Parts}
use Rattle.design_form.specs.Extents.{shape_of}
use Rattle.design_form.specs.State.{seen_in}
use Rattle.design_form.specs.Values.{valued}
use Rattle.net_exprs.specs.Lowered.{lowered}
use Rattle.net_exprs.specs.Names.{wired_in}
use Rattle.net_exprs.proofs.ShapeLemmas.{shape_in_design}
use Rattle.net_exprs.proofs.sizes.sides.Goals as goal

both : (f : Shape → Shape → Shape) (d : Parts) (nodes : List ℕ) (x y : Expr) → f (valued (seen_in d []) x).shape (valued (seen_in d []) y).shape ≡ f (lowered (wired_in d nodes) x).shape (lowered (wired_in d nodes) y).shape
both f d nodes x y = ap (λ (s : Shape). f s (valued (seen_in d []) y).shape) (shape_in_design d nodes x) ∙ ap (f (lowered (wired_in d nodes) x).shape) (shape_in_design d nodes y)

pub returns-in-Ok-clause-left : goal.returns-in-Ok-clause-left
returns-in-Ok-clause-left c nodes = c.in-Ok.ensures.left ∙ both (λ a b. left_context c.args.op a b (shape_of c.args.context)) c.args.design.now nodes c.args.left.now c.args.right.now

pub returns-in-Ok-clause-right : goal.returns-in-Ok-clause-right
returns-in-Ok-clause-right c nodes = c.in-Ok.ensures.right ∙ both (λ a b. right_context c.args.op a b (shape_of c.args.context)) c.args.design.now nodes c.args.left.now c.args.right.now
