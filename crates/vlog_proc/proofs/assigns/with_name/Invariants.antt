-- The names so far, and the rest.
use Rattle.std.proofs.Common.{◌≡◌, ◌++◌, drop}
use Rattle.vlog_proc.proofs.assigns.with_name.Given as goal

abbrev pub invariant-loop-one : goal.invariant-loop-one
invariant-loop-one l = l.all.items ++ drop l.one-index l.names ≡ l.names
