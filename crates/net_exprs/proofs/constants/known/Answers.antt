use Rattle.design_form.specs.Extents.{shape_of}
use Rattle.net_exprs.proofs.ValueSteps.{too_wide}
use Rattle.net_exprs.proofs.constants.known.Goals as goal

pub returns-then-context-gt128-clause-value : goal.returns-then-context-gt128-clause-value
returns-then-context-gt128-clause-value c = too_wide (shape_of c.args.context) c.args.e.now c.if-context-gt128.true
