use Rattle.std.proofs.Common.{arith}
use Rattle.vlog_tree.proofs.DepthLemmas.{deepest-append, deepest-cons, deepest-nil}
use Rattle.vlog_expr.proofs.measured.MeasuredList.push.Goals as goal

pub invariant_of-self-2 : goal.invariant_of-self-2
invariant_of-self-2 c = rw c.in_ok-push.ensures.ok (simp (deepest-append, deepest-cons, deepest-nil) (omega arith))
