-- What is left decides.
use Rattle.std.proofs.Common.{◌≡◌, drop}
use Rattle.vlog_elab.specs.Orders.{repeated_behind}
use Rattle.vlog_elab.proofs.ordering.differ_behind.Given as goal

abbrev pub invariant-loop-one : goal.invariant-loop-one
invariant-loop-one l = repeated_behind l.last (drop l.one-index l.others) ≡ repeated_behind l.fn.first l.fn.others
