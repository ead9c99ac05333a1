use Rattle.net_exprs.proofs.ShapeLemmas.{shapes_kept}
use Rattle.net_exprs.proofs.laws.expressions_keep_shapes.Goals as goal

pub returns : goal.returns
returns c = shapes_kept
