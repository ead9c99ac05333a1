-- The names so far, and the rest.
use Rattle.std.proofs.Common.{◌≡◌, ◌++◌, length}
use Rattle.design_form.proofs.naming.listed.Given as goal

abbrev pub invariant-loop-name : goal.invariant-loop-name
invariant-loop-name l = l.out.items ++ l.rest.keys ≡ l.fn.names.keys

abbrev pub decreases-loop-name : goal.decreases-loop-name
decreases-loop-name l = length l.rest.keys
