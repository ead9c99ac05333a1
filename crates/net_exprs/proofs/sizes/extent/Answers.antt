use Rattle.std.proofs.Common.{◌∙◌}
use Rattle.net_exprs.proofs.ShapeLemmas.{shape_in_design}
use Rattle.net_exprs.proofs.sizes.extent.Goals as goal

pub returns-in-Ok-clause-shape : goal.returns-in-Ok-clause-shape
returns-in-Ok-clause-shape c nodes = c.in-Ok.ensures ∙ shape_in_design c.args.design.now nodes c.args.e.now
