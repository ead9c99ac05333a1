use Rattle.proc_loops.proofs.AssignForms.{case-form}
use Rattle.proc_loops.proofs.names.+assigning.Goals as goal

pub assigns-returns-in-Case : goal.assigns-returns-in-Case
assigns-returns-in-Case t c = case-form _ _ _ _ _ _ _ _ c.in-Case.is c.as_slice-in-Case.ensures c.any_arm_assigns.ensures
