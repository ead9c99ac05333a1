-- After the test comes the rest.
use Rattle.elab_names.proofs.StatementForms.{answers-next}
use Rattle.elab_names.proofs.statements.branch_of.Goals as goal

pub returns-in-Ok : goal.returns-in-Ok
returns-in-Ok c = λ t a b test yes no. answers-next c.branch_then.result c.args.test t c.in-Ok.test _ c.in-Ok.is test (c.branch_then.ensures a b yes no)
